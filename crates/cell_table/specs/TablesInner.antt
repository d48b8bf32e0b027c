-- What the steps of working a table promise to one another, and the whole of it to the walk of the cell.
use Rattle.std.specs.Prelude.{ℕ, ◌+◌, ◌*◌, ◌≤◌, ◌≡◌, List, Option, Ok, Err, Bool, true, false, cond, length, get_or, IfSome, Float}
use Rattle.std.specs.Float.{nan}
use Rattle.std.specs.Float.Ieee.Scale.{finite}
use Rattle.answers.specs.declared.Refusal.TheVariants.{DistanceNotFinite}
use Rattle.answers.specs.Answers.{Checked}
use Rattle.lists.specs.Lists.{tab, put_part, grid, fill}
use Rattle.lists.specs.Tests.{every}
use Rattle.metrics.specs.Distance.{zero32, squared, value_in, coordinate}
use Rattle.pq_params.specs.declared.Shape.{Shape}
use Rattle.pq_params.specs.Bounds.{bad_range, bad_plain, centers_of}
use Rattle.pq_params.specs.Ranges.{begin_of, width_of, covered_of, on_range}
use Rattle.pq_params.specs.Lengths.{subs_long, table_long}
use Rattle.cell_table.specs.declared.CellView.{CellView}
use Rattle.cell_table.specs.Tables.{finite_row, all_finite}

-- what is worked is refused where not all of it is finite
abbrev pub if_finite : Bool → Checked
if_finite finite = cond finite (Ok tt) (Err DistanceNotFinite)

abbrev pub finite_at : (ℕ → Float) → ℕ → Bool
finite_at f q = finite (f q)

-- n values, each tested, and stored in a run
pub record Stored (f : ℕ → Float) (n : ℕ) (out : List Float) (r : Checked) : Type 0 where
  pub answer : r ≡ if_finite (every (finite_at f) n)
  pub entries : every (finite_at f) n ≡ true → out ≡ tab f n

-- the same in stretch s of a table
pub record StoredAt (f : ℕ → Float) (n s : ℕ) (table : List Float) (out : List Float) (r : Checked) : Type 0 where
  pub answer : r ≡ if_finite (every (finite_at f) n)
  pub entries : every (finite_at f) n ≡ true → out ≡ put_part table (s * n) n (tab f n)

-- the distance of the values of x to centre q of a sub-space
abbrev pub distance_at : List Float → Option (List Float) → List Float → ℕ → ℕ → Float
distance_at x residual centers w q = squared (value_in residual x) (coordinate centers w q) w

-- a whole table of m stretches, where each entry is finite
pub record Filled (f : ℕ → ℕ → Float) (m n : ℕ) (out : List Float) (r : Checked) : Type 0 where
  pub answer : r ≡ if_finite (every (finite_row f n) m)
  pub entries : every (finite_row f n) m ≡ true → out ≡ grid f m n

-- coordinate j of centre q of sub-space s, in one cell's own stretch of the sub-centres
abbrev pub stretch_coordinate : Shape → ℕ → List Float → ℕ → ℕ → ℕ → Float
stretch_coordinate z centers own s q j = get_or own (centers * begin_of z.d z.nsub s + q * width_of z.d z.nsub s + j) nan

-- the entry of sub-space s and centre q, from the values x at the D coordinates
abbrev pub stretch_entry : Shape → ℕ → (ℕ → Float) → List Float → ℕ → ℕ → Float
stretch_entry z centers x own s q =
    squared (on_range z.d z.nsub s x) (stretch_coordinate z centers own s q) (width_of z.d z.nsub s)

-- what a table is worked from: the query, the cell's coarse centre, and its own stretch of the sub-centres
pub record Parts (z : CellView) (centers : ℕ) (own table : List Float) : Type 0 where
  pub range : bad_range z.shape.d z.shape.nsub ≡ false
  pub query-long : length z.query.now ≡ z.shape.d
  pub center-long : IfSome z.center (λ c. length c.now ≡ z.shape.d)
  pub own-long : length own ≡ centers * covered_of z.shape.d z.shape.nsub
  pub table-long : length table ≡ z.shape.nsub * centers

-- the same in the whole buffer of the sub-centres, where the cell's stretch is there
pub record Tabling (z : CellView) (table : List Float) : Type 0 where
  pub plain : bad_plain z.shape ≡ false
  pub query-long : length z.query.now ≡ z.shape.d
  pub center-long : IfSome z.center (λ c. length c.now ≡ z.shape.d)
  pub subs-held : z.cell * subs_long z.shape + subs_long z.shape ≤ length z.subs.now
  pub table-long : length table ≡ table_long z.shape

-- a table of the entries f; zero where one is not finite
abbrev pub table_of : (ℕ → ℕ → Float) → Shape → List Float
table_of f z = cond (all_finite f z) (grid f z.nsub (centers_of z.bits)) (fill zero32 (table_long z))

-- the whole table: its entries, or the refusal and it is zero
pub record Tabled (f : ℕ → ℕ → Float) (z : Shape) (out : List Float) (r : Checked) : Type 0 where
  pub answer : r ≡ if_finite (all_finite f z)
  pub entries : out ≡ table_of f z
