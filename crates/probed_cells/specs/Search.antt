-- The search of a celled index, in document 01's five steps.
use Rattle.std.specs.Prelude.{ℕ, List, Bool, ◌&&◌, get_or, length, Float}
use Rattle.std.specs.Float.{binary32}
use Rattle.std.specs.Float.Ieee.{sub}
use Rattle.lists.specs.Lists.{join}
use Rattle.lists.specs.Tests.{every}
use Rattle.metrics.specs.Distance.{coordinate_in, coordinate}
use Rattle.neighbor.specs.declared.Candidate.{Candidate}
use Rattle.pq_params.specs.declared.CelledShape.{CelledShape}
use Rattle.celled_lists.specs.Index.{Index, index_of, index_in}
use Rattle.celled_lists.specs.Lists.{starts_sound, members_of, list_sound}
use Rattle.celled_probe.specs.Probe.{distance_to, finite_cells, nearest_cells}
use Rattle.cell_table.specs.Tables.{Cell}
use Rattle.cell_codes.specs.Codes.{visible, codes_sound}
use Rattle.cell_walk.specs.Candidates.{cell_finite, candidates}
use Rattle.probed_cells.specs.declared.Asking.{Asking}

-- what is asked of an index: a query and a row mask
pub record Asked : Type 0 where
  pub index : Index
  pub query : List Float
  pub mask : List ℕ

-- what a promise builds of the inputs
abbrev pub asking : CelledShape → ℕ → List Float → List ℕ → List Float → List ℕ → List ℕ → List Float → List ℕ → Asked
asking s n query mask coarse starts members subs codes =
    record { index = index_of s n coarse starts members subs codes; query = query; mask = mask }

abbrev pub asking_in : Asking → Asked
asking_in a = record { index = index_in a.index; query = a.query.now; mask = a.mask.now }

-- 1. starts go from 0 to n and never fall
abbrev pub starts_good : Asked → Bool
starts_good a = starts_sound a.index.starts a.index.shape.cells a.index.n

-- 2. coarse distances, over all D coordinates; the cells to probe, nearest first, equal distance by lower cell
abbrev pub coarse_distance : Asked → ℕ → Float
coarse_distance a = distance_to a.index.shape.plain.d a.query a.index.coarse

abbrev pub coarse_finite : Asked → Bool
coarse_finite a = finite_cells (coarse_distance a) a.index.shape.cells

abbrev pub probed : Asked → List ℕ
probed a = nearest_cells (coarse_distance a) a.index.shape.cells a.index.shape.probes

abbrev pub probed_at : Asked → ℕ → ℕ
probed_at a p = get_or (probed a) p 0

-- cell c as the query meets it: (query − coarse centre), the cell's sub-centres and its rows
abbrev pub query_at : Asked → ℕ → ℕ → Float
query_at a c j = sub binary32 (coordinate_in a.query j) (coordinate a.index.coarse a.index.shape.plain.d c j)

abbrev pub members_at : Asked → ℕ → List ℕ
members_at a c = members_of a.index.starts a.index.members c

abbrev pub cell_at : Asked → ℕ → Cell
cell_at a c = record {
  shape = a.index.shape.plain;
  query = query_at a c;
  subs = a.index.subs;
  cell = c;
  shown = visible a.mask;
  codes = a.index.codes;
  rows = members_at a c;
}

abbrev pub probed_cell : Asked → ℕ → Cell
probed_cell a p = cell_at a (probed_at a p)

-- 3. over all probed cells: members below n and strictly rising, visible rows' codes below K
abbrev pub cell_sound : Asked → ℕ → Bool
cell_sound a c = list_sound a.index.n (members_at a c) && codes_sound (cell_at a c)

unfoldable pub probed_sound : Asked → Bool
probed_sound a = every (λ (p : ℕ). cell_sound a (probed_at a p)) (length (probed a))

-- 4 and 5, cell by cell in probe order
unfoldable pub probed_finite : Asked → Bool
probed_finite a = every (λ (p : ℕ). cell_finite (probed_cell a p)) (length (probed a))

unfoldable pub all_candidates : Asked → List Candidate
all_candidates a = join (λ (p : ℕ). candidates (probed_cell a p)) (length (probed a))
