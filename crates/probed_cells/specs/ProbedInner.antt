-- What the walks of the probed cells count on, and what they promise to the search as a whole.
use Rattle.std.specs.Prelude.{ℕ, ◌+◌, ◌*◌, ◌≤◌, ◌<◌, ◌≡◌, List, [], Option, Some, Bool, true, false, cond, not, length, get_or, Float}
use Rattle.std.specs.Borrow.{Bor}
use Rattle.answers.specs.declared.Refusal.TheVariants.{DistanceNotFinite}
use Rattle.lists.specs.Lists.{fill}
use Rattle.metrics.specs.Distance.{zero32}
use Rattle.neighbor.specs.Neighbor.{result_rows, result_sums}
use Rattle.pq_params.specs.Bounds.{bad_plain, bad_celled}
use Rattle.pq_params.specs.Lengths.{subs_long, table_long}
use Rattle.cell_table.specs.declared.CellView.{CellView}
use Rattle.cell_walk.specs.Results.{Lent, SearchOut, asked_of, blank, answered}
use Rattle.probed_cells.specs.declared.Asking.{Asking}
use Rattle.probed_cells.specs.Search.{Asked, starts_good, probed, cell_sound, probed_sound, probed_finite, all_candidates}

-- ---- a cell

-- cell c as the search in one cell meets it
abbrev pub view_of : Asking → ℕ → Bor (List ℕ) → Option (Bor (List Float)) → CellView
view_of a c list center = record {
  shape = a.index.shape.plain;
  cell = c;
  n = length list.now;
  query = a.query;
  center = center;
  subs = a.index.subs;
  mask = a.mask;
  codes = a.index.codes;
  members = Some list;
}

-- ---- step 3

-- what the lists are read with: the buffers have their lengths, and the starts are sound
pub record Listed (a : Asked) : Type 0 where
  pub plain : bad_plain a.index.shape.plain ≡ false
  pub few : a.index.n ≤ 100_001
  pub mask-long : length a.mask ≡ a.index.n
  pub starts-long : length a.index.starts ≡ a.index.shape.cells + 1
  pub members-long : length a.index.members ≡ a.index.n
  pub codes-long : length a.index.codes ≡ a.index.n * a.index.shape.plain.nsub
  pub starts-sound : starts_good a ≡ true

-- the cells of a list are cells of the index
abbrev pub CellsIn : ℕ → List ℕ → Type 0
CellsIn cells probed = (p : ℕ) → p < length probed → get_or probed p 0 < cells

-- the test in the p-th of a list of cells
abbrev pub sound_at : Asked → List ℕ → ℕ → Bool
sound_at a probed p = cell_sound a (get_or probed p 0)

-- ---- the work as a whole

-- what tests 1 to 6 leave of the index, the query and the mask
pub record Ready (a : Asked) : Type 0 where
  pub good : bad_celled a.index.shape ≡ false
  pub few : a.index.n ≤ 100_001
  pub query-long : length a.query ≡ a.index.shape.plain.d
  pub mask-long : length a.mask ≡ a.index.n
  pub coarse-long : length a.index.coarse ≡ a.index.shape.cells * a.index.shape.plain.d
  pub starts-long : length a.index.starts ≡ a.index.shape.cells + 1
  pub members-long : length a.index.members ≡ a.index.n
  pub subs-long : length a.index.subs ≡ a.index.shape.cells * subs_long a.index.shape.plain
  pub codes-long : length a.index.codes ≡ a.index.n * a.index.shape.plain.nsub

-- what a probed cell is searched with: it is a cell of the index, and step 3 found no damage in it
pub record Walking (a : Asked) (c : ℕ) (table : List Float) : Type 0 where
  pub ready : Ready a
  pub starts-good : starts_good a ≡ true
  pub cell_in : c < a.index.shape.cells
  pub sound : cell_sound a c ≡ true
  pub table-long : length table ≡ table_long a.index.shape.plain

-- the same of all probed cells
pub record Probing (a : Asked) (list : List ℕ) (table : List Float) : Type 0 where
  pub ready : Ready a
  pub starts-good : starts_good a ≡ true
  pub list-is : list ≡ probed a
  pub sound : probed_sound a ≡ true
  pub table-long : length table ≡ table_long a.index.shape.plain

-- results all blank, and the table zero
pub record Cleared (l : Lent) : Type 0 where
  pub rows-blank : l.rows ≡ result_rows (asked_of l) []
  pub sums-blank : l.sums ≡ result_sums (asked_of l) []
  pub table-zero : l.table ≡ fill zero32 (length l.table)

-- steps 4 and 5 over all probed cells
abbrev pub probed_outcome : Asked → Lent → SearchOut
probed_outcome a l = cond (not (probed_finite a)) (blank l DistanceNotFinite) (answered l (all_candidates a))
