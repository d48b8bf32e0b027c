-- Demand 3 for the celled index: two searches that differ in nothing visible.
use Rattle.std.specs.Prelude.{ℕ, ◌<◌, ◌≡◌, ◌↔◌}
use Rattle.celled_lists.specs.Index.{Index}
use Rattle.probed_cells.specs.Search.{Asked}
use Rattle.celled_search.specs.Outcome.{SearchIn}
use Rattle.policy.specs.Check.{Passes, StandsIn, list_at}
use Rattle.policy.specs.Sight.{InSight, CodesAlike}

-- a visible row stands in a cell of the one index exactly if in that cell of the other
abbrev pub SameCells : Asked → Index → Type 0
SameCells a x =
    (m c : ℕ) → InSight a.index.n a.mask m → c < a.index.shape.cells → StandsIn (list_at a.index c) m ↔ StandsIn (list_at x c) m

-- and has the same codes in both
abbrev pub SameCodes : Asked → Index → Type 0
SameCodes a x = CodesAlike a.index.n a.mask a.index.shape.plain.nsub a.index.codes x.codes

-- Hidden rows may have any cells and any codes that pass the whole check.
pub record AlikeInSight (a b : SearchIn) : Type 0 where
  -- two indexes that pass the whole check
  pub first : Passes a.asked.index
  pub second : Passes b.asked.index
  -- equal parameters, row count and centres
  pub d : a.asked.index.shape.plain.d ≡ b.asked.index.shape.plain.d
  pub nsub : a.asked.index.shape.plain.nsub ≡ b.asked.index.shape.plain.nsub
  pub bits : a.asked.index.shape.plain.bits ≡ b.asked.index.shape.plain.bits
  pub cells : a.asked.index.shape.cells ≡ b.asked.index.shape.cells
  pub probes : a.asked.index.shape.probes ≡ b.asked.index.shape.probes
  pub n : a.asked.index.n ≡ b.asked.index.n
  pub coarse : a.asked.index.coarse ≡ b.asked.index.coarse
  pub subs : a.asked.index.subs ≡ b.asked.index.subs
  -- one query, mask and set of lent buffers, whose length is k
  pub query : a.asked.query ≡ b.asked.query
  pub mask : a.asked.mask ≡ b.asked.mask
  pub lent : a.lent ≡ b.lent
  -- visible rows have equal cells and codes
  pub same-cells : SameCells a.asked b.asked.index
  pub same_codes : SameCodes a.asked b.asked.index
