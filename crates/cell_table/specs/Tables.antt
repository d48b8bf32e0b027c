-- One cell as a search meets it, and step 4: its table of distances.
use Rattle.std.specs.Prelude.{ℕ, ◌+◌, ◌*◌, List, Option, Bool, get_or, option_copied, Float}
use Rattle.std.specs.Float.{nan}
use Rattle.std.specs.Float.Ieee.Scale.{finite}
use Rattle.lists.specs.Tests.{every}
use Rattle.metrics.specs.Distance.{value_in, squared}
use Rattle.pq_params.specs.declared.Shape.{Shape}
use Rattle.pq_params.specs.Bounds.{centers_of}
use Rattle.pq_params.specs.Ranges.{begin_of, width_of, on_range}
use Rattle.pq_params.specs.Lengths.{subs_long}
use Rattle.cell_table.specs.declared.CellView.{CellView}

pub record Cell : Type 0 where
  pub shape : Shape
  -- the query at coordinate j, less the coarse centre if there is one
  pub query : ℕ → Float
  -- the sub-centres of all cells, and this cell's number
  pub subs : List Float
  pub cell : ℕ
  -- which rows are shown, and the codes, by row number; the rows of the cell
  pub shown : ℕ → Bool
  pub codes : List ℕ
  pub rows : List ℕ

-- the query as a cell meets it: in a celled index less the cell's coarse centre
abbrev pub query_for : List Float → Option (List Float) → ℕ → Float
query_for query center = value_in center query

abbrev pub query_of : CellView → ℕ → Float
query_of z = query_for z.query.now (option_copied z.center)

-- coordinate j of centre q of sub-space s. Order: cell, sub-space, centre, coordinate.
abbrev pub sub_coordinate : Shape → List Float → ℕ → ℕ → ℕ → ℕ → Float
sub_coordinate z subs cell s q j =
    get_or subs (cell * subs_long z + centers_of z.bits * begin_of z.d z.nsub s + q * width_of z.d z.nsub s + j) nan

-- 4. the table: the distance from (query − coarse centre) on range s to sub-centre q
abbrev pub entry_of : Shape → (ℕ → Float) → List Float → ℕ → ℕ → ℕ → Float
entry_of z query subs cell s q = squared (on_range z.d z.nsub s query) (sub_coordinate z subs cell s q) (width_of z.d z.nsub s)

abbrev pub entry_at : Cell → ℕ → ℕ → Float
entry_at c = entry_of c.shape c.query c.subs c.cell

-- Every entry is tested.
abbrev pub finite_row : (ℕ → ℕ → Float) → ℕ → ℕ → Bool
finite_row f n s = every (λ (q : ℕ). finite (f s q)) n

abbrev pub all_finite : (ℕ → ℕ → Float) → Shape → Bool
all_finite f z = every (finite_row f (centers_of z.bits)) z.nsub

abbrev pub table_finite : Cell → Bool
table_finite c = all_finite (entry_at c) c.shape
