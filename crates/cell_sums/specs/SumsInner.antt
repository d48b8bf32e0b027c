-- What the steps of summing promise to one another and to the walk, in terms of n_sub and K.
use Rattle.std.specs.Prelude.{ℕ, ◌+◌, ◌*◌, ◌≤◌, ◌<◌, ◌≡◌, true, cond, List, Option, Some, None, map, length, get_or, Float}
use Rattle.std.specs.Float.{nan}
use Rattle.std.specs.Float.Ieee.Scale.{finite}
use Rattle.answers.specs.Answers.{Checked}
use Rattle.lists.specs.Lists.{tab}
use Rattle.lists.specs.Tests.{every}
use Rattle.metrics.specs.Distance.{zero32, sum_to}
use Rattle.neighbor.specs.declared.Candidate.{Candidate}
use Rattle.neighbor.specs.Neighbor.{row_of}
use Rattle.neighbor.specs.Held.{candidate_at}
use Rattle.cell_table.specs.TablesInner.{if_finite, finite_at}
use Rattle.cell_codes.specs.Codes.{code_at, of_all}
use Rattle.cell_codes.specs.CodesInner.{codes_under}
use Rattle.cell_sums.specs.declared.Sums.{Sums}

-- a row's sum, by the table
abbrev pub table_term : List Float → List ℕ → ℕ → ℕ → ℕ → ℕ → Float
table_term table codes nsub centers m s = get_or table (s * centers + code_at codes nsub m s) nan

abbrev pub table_sum : List Float → List ℕ → ℕ → ℕ → ℕ → Float
table_sum table codes nsub centers m = sum_to (table_term table codes nsub centers m) nsub

-- the same by what is given
abbrev pub term_by : Sums → ℕ → ℕ → Float
term_by t = table_term t.table.now t.codes.now t.nsub t.centers

abbrev pub sum_by : Sums → ℕ → Float
sum_by t = table_sum t.table.now t.codes.now t.nsub t.centers

-- what the sum of row m is worked from: its codes are there and below K, and the table has an entry for each
pub record Coded (codes : List ℕ) (table : List Float) (nsub centers m : ℕ) : Type 0 where
  pub codes-held : m * nsub + nsub ≤ length codes
  pub table-long : length table ≡ nsub * centers
  pub under : codes_under codes nsub centers m ≡ true

abbrev pub CodedBy : Sums → ℕ → Type 0
CodedBy t m = Coded t.codes.now t.table.now t.nsub t.centers m

-- each of some rows has its codes
abbrev pub AllCoded : Sums → List ℕ → Type 0
AllCoded t rows = (i : ℕ) → i < length rows → CodedBy t (get_or rows i 0)

-- f of each of four rows
abbrev pub four_of : (ℕ → Float) → List ℕ → List Float
four_of f m = tab (λ (i : ℕ). f (get_or m i 0)) 4

-- the candidate of a row, whose sum is f; the picked rows with their sums
abbrev pub candidate_by : (ℕ → Float) → ℕ → Candidate
candidate_by f m = record { sum = f m; row = m }

abbrev pub with_sums : (ℕ → Float) → List Candidate → List Candidate
with_sums f picked = map (λ (c : Candidate). candidate_by f c.row) picked

-- sums as one worked distance: the mark, if one of them is not finite
abbrev pub worked_all : List Candidate → Option Float
worked_all picked = cond (every (λ (i : ℕ). finite (candidate_at picked i).sum) (length picked)) (Some zero32) None

-- the picked rows with their sums f, and all of these are tested
pub record Summed (f : ℕ → Float) (picked picked' : List Candidate) (r : Checked) : Type 0 where
  pub answer : r ≡ if_finite (of_all (finite_at f) (map row_of picked))
  pub sums-are : picked' ≡ with_sums f picked
