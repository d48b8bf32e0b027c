-- One stretch of the rows g 0, g 1, .. of a cell, of which v shows some, and whose sums are f.
use Rattle.std.specs.Prelude.{ℕ, ◌+◌, ◌*◌, ◌-◌, ◌≤◌, ◌≡◌, Bool, true, cond, List, Result, Ok, Err, map, length, take, Float}
use Rattle.answers.specs.declared.Refusal.{Refusal}
use Rattle.answers.specs.declared.Refusal.TheVariants.{DistanceNotFinite}
use Rattle.lists.specs.Lists.{tab}
use Rattle.lists.specs.Tests.{every, keep}
use Rattle.neighbor.specs.declared.Candidate.{Candidate}
use Rattle.neighbor.specs.Neighbor.{row_of}
use Rattle.neighbor.specs.Gathered.{batch_of, Runs, runs}
use Rattle.offers.specs.OffersInner.{offered_all}
use Rattle.cell_table.specs.declared.CellView.{CellView}
use Rattle.cell_table.specs.TablesInner.{finite_at}
use Rattle.cell_codes.specs.Codes.{of_all}
use Rattle.cell_codes.specs.CodesInner.{sound_at, Numbered, Rows}
use Rattle.cell_sums.specs.SumsInner.{table_sum, candidate_by}
use Rattle.cell_stretch.specs.declared.Went.{Went}

-- what the walk counts on: the rows are there, shown ones' codes are below K, and the table has an entry for each
pub record Ready (z : CellView) (centers : ℕ) (table : List Float) : Type 0 where
  pub rows-of : Rows z
  pub table-long : length table ≡ z.shape.nsub * centers
  pub sound : every (sound_at z centers) z.n ≡ true

-- the sums of the rows, by the table
abbrev pub sums_of : CellView → ℕ → List Float → ℕ → Float
sums_of z centers table = table_sum table z.codes.now z.shape.nsub centers

-- a stretch goes forth, within the cell, by at most 64 rows
pub record Stretch (z : CellView) (from to : ℕ) : Type 0 where
  pub forth : from ≤ to
  pub within : to ≤ z.n
  pub few : to ≤ from + 64

-- the rows from `from` on, and the shown ones of those before `to`
abbrev pub onwards : (ℕ → ℕ) → ℕ → ℕ → ℕ
onwards g from i = g (from + i)

abbrev pub stretch_of : (ℕ → Bool) → (ℕ → ℕ) → ℕ → ℕ → List ℕ
stretch_of v g from to = keep v (tab (onwards g from) (to - from))

-- what they are picked with, and that they are picked in their order
pub record Picking (z : CellView) (from to : ℕ) (picked : List Candidate) : Type 0 where
  pub rows-of : Numbered z
  pub forth : from ≤ to
  pub within : to ≤ z.n
  pub room : to ≤ from + length picked

pub record Picked (v : ℕ → Bool) (g : ℕ → ℕ) (from to : ℕ) (picked : List Candidate) (r : ℕ) : Type 0 where
  pub room : r ≤ length picked
  pub few : r + from ≤ to
  pub are : stretch_of v g from to ≡ take r (map row_of picked)

-- their candidates, and whether their sums are finite
abbrev pub candidates_in : (ℕ → Float) → (ℕ → Bool) → (ℕ → ℕ) → ℕ → ℕ → List Candidate
candidates_in f v g from to = map (candidate_by f) (stretch_of v g from to)

abbrev pub finite_stretch : (ℕ → Float) → (ℕ → Bool) → (ℕ → ℕ) → ℕ → ℕ → Bool
finite_stretch f v g from to = of_all (finite_at f) (stretch_of v g from to)

-- results and batch after a stretch: its candidates are offered; where a sum is not finite, nothing changes
abbrev pub after_stretch : (ℕ → Float) → (ℕ → Bool) → (ℕ → ℕ) → ℕ → ℕ → Runs → Runs
after_stretch f v g from to s = cond (finite_stretch f v g from to) (offered_all s (candidates_in f v g from to)) s

-- how the walk goes on, s being results and batch then: with what they hold, and how many rows were offered; or refused
abbrev pub step_with : Bool → Runs → ℕ → Result Went Refusal
step_with finite s count = cond finite (Ok (record { found = s.found; waiting = s.batch.waiting; count = count })) (Err DistanceNotFinite)

pub record Visited (f : ℕ → Float) (v : ℕ → Bool) (g : ℕ → ℕ) (from to : ℕ) (s : Runs)
    (rows' : List ℕ) (sums' : List Float) (batch' : List Candidate) (r : Result Went Refusal) : Type 0 where
  pub answer : r ≡ step_with (finite_stretch f v g from to) (after_stretch f v g from to s) (length (candidates_in f v g from to))
  pub runs-are : runs rows' sums' (after_stretch f v g from to s).found (batch_of batch' (after_stretch f v g from to s).batch.waiting)
      ≡ after_stretch f v g from to s
