-- Demand 3 for the plain index: two searches that differ in hidden rows' codes alone have one outcome.
use Prim.Native.Nat.{ℕ, ◌<◌}
use mathlib.Core.Path.{◌≡◌, refl, ◌∙◌, ap}
use mathlib.Core.List.{List}
use lib.ListN.{length}
use Rattle.lists.proofs.Tables.{length-tab, get_or-tab}
use Rattle.cell_table.specs.Tables.{Cell}
use Rattle.cell_codes.specs.Codes.{visible_rows}
use Rattle.cell_walk.specs.Results.{Lent}
use Rattle.plain_search.specs.Outcome.{SearchIn, whole_cell, search_worked, search_refusal, search_outcome}
use Rattle.policy.specs.Sight.{InSight, CodesAlike}
use Rattle.policy.specs.PlainPolicy.{PlainAlike}
use Rattle.policy.proofs.Cells.{met, shown_at, shown-stands, ShownAlike, same-sound, same-finite, same-candidates}

-- what a asks, of an index with other codes
abbrev recoded : SearchIn → List ℕ → SearchIn
recoded a codes = record {
  shape = a.shape;
  n = a.n;
  query = a.query;
  mask = a.mask;
  subs = a.subs;
  codes = codes;
  lent = a.lent;
}

module _ (a : SearchIn) where
  in-sight : (i : ℕ) → i < length (visible_rows (whole_cell a)) → InSight a.n a.mask (shown_at (whole_cell a) i)
  in-sight i h =
      let s = shown-stands (whole_cell a) i h in
      let p = s.0.0 in
      let w = rw (length-tab (λ (m : ℕ). m) a.n) at s.0.1.within in
      record { there = rw (← s.0.1.held, get_or-tab (λ (m : ℕ). m) a.n p 0 w) w; shown = s.1 }

module _ (c : Cell) (codes : List ℕ) (alike : ShownAlike c codes) where
  same-worked : (l : Lent) → search_worked c l ≡ search_worked (met c codes c.rows) l
  unfolding search_worked
  same-worked l = rw (same-sound c codes c.rows refl alike, same-finite c codes c.rows refl alike, same-candidates c codes c.rows refl alike)

module _ (a : SearchIn) (codes : List ℕ) (long : length a.codes ≡ length codes) (alike : CodesAlike a.n a.mask a.shape.nsub a.codes codes) where
  same-refusal : search_refusal a ≡ search_refusal (recoded a codes)
  unfolding search_refusal
  same-refusal = rw long

  same_outcome : search_outcome a ≡ search_outcome (recoded a codes)
  unfolding search_outcome
  same_outcome = rw (same-refusal, same-worked (whole_cell a) codes (λ i s h. alike (shown_at (whole_cell a) i) s (in-sight a i h)) a.lent)

-- what is equal in both is all of b but its codes
only-codes : (a b : SearchIn) → PlainAlike a b → recoded a b.codes ≡ b
only-codes a b e i = record {
  shape = record { d = e.d i; nsub = e.nsub i; bits = e.bits i };
  n = e.n i;
  query = e.query i;
  mask = e.mask i;
  subs = e.subs i;
  codes = b.codes;
  lent = e.lent i;
}

-- Hidden rows change nothing: the refusal, row numbers, sums, counts and every result byte are the same.
pub plain-row-policy : (a b : SearchIn) → PlainAlike a b → search_outcome a ≡ search_outcome b
plain-row-policy a b e = same_outcome a b.codes e.codes-long e.same_codes ∙ ap search_outcome (only-codes a b e)
