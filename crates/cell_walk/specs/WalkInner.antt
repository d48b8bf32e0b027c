-- What the steps of the walk promise to one another: of the rows g 0, g 1, .. of a cell, which v shows, and whose sums are f.
use Rattle.std.specs.Prelude.{ℕ, ◌≡◌, Bool, true, cond, Err, List, [], ◌++◌, map, length, take, drop, Float}
use Rattle.lists.specs.Lists.{tab, fill}
use Rattle.lists.specs.Tests.{keep}
use Rattle.metrics.specs.Distance.{zero32}
use Rattle.neighbor.specs.declared.Candidate.{Candidate}
use Rattle.neighbor.specs.Neighbor.{comes_before, insert_all, row_of, sum_of, result_rows, result_sums}
use Rattle.neighbor.specs.Held.{held}
use Rattle.answers.specs.declared.Refusal.TheVariants.{DistanceNotFinite}
use Rattle.answers.specs.Answers.{Searched}
use Rattle.cell_table.specs.TablesInner.{finite_at}
use Rattle.cell_codes.specs.Codes.{of_all}
use Rattle.cell_sums.specs.SumsInner.{candidate_by}
use Rattle.cell_walk.specs.Results.{answer_of}

-- ---- the rows done

-- the shown ones of the first i rows, their candidates, and whether their sums are finite
abbrev pub shown_to : (ℕ → Bool) → (ℕ → ℕ) → ℕ → List ℕ
shown_to v g i = keep v (tab g i)

abbrev pub candidates_to : (ℕ → Float) → (ℕ → Bool) → (ℕ → ℕ) → ℕ → List Candidate
candidates_to f v g i = map (candidate_by f) (shown_to v g i)

abbrev pub finite_to : (ℕ → Float) → (ℕ → Bool) → (ℕ → ℕ) → ℕ → Bool
finite_to f v g i = of_all (finite_at f) (shown_to v g i)

-- ---- all rows

-- of those held and the cell's candidates the first k, k being the results' length
abbrev pub staying : List Candidate → List ℕ → List Float → ℕ → List Candidate
staying cs rows sums found = take (length rows) (insert_all comes_before (held rows sums found) cs)

-- the answer: the places held then, and how many rows were scored; or the refusal, if a shown row's sum is not finite
abbrev pub walk_answer : Bool → List Candidate → List Candidate → Searched
walk_answer finite kept cs = cond finite (answer_of (length kept) (length cs)) (Err DistanceNotFinite)

-- those that stay, and the places past them as they were
abbrev pub stay_rows : List Candidate → List ℕ → List ℕ
stay_rows kept rows = map row_of kept ++ drop (length kept) rows

abbrev pub stay_sums : List Candidate → List Float → List Float
stay_sums kept sums = map sum_of kept ++ drop (length kept) sums

-- what the walk of n rows leaves, where a refusal leaves the results to the caller
pub record Walked (f : ℕ → Float) (v : ℕ → Bool) (g : ℕ → ℕ) (n : ℕ) (rows : List ℕ) (sums : List Float) (found : ℕ)
    (rows' : List ℕ) (sums' : List Float) (r : Searched) : Type 0 where
  pub answer : r ≡ walk_answer (finite_to f v g n) (staying (candidates_to f v g n) rows sums found) (candidates_to f v g n)
  pub rows_are : finite_to f v g n ≡ true → rows' ≡ stay_rows (staying (candidates_to f v g n) rows sums found) rows
  pub sums-are : finite_to f v g n ≡ true → sums' ≡ stay_sums (staying (candidates_to f v g n) rows sums found) sums

-- what it leaves once a refusal made the results blank and the table zero
pub record Scanned (f : ℕ → Float) (v : ℕ → Bool) (g : ℕ → ℕ) (n : ℕ) (rows : List ℕ) (sums : List Float) (found : ℕ) (table : List Float)
    (rows' : List ℕ) (sums' : List Float) (table' : List Float) (r : Searched) : Type 0 where
  pub answer : r ≡ walk_answer (finite_to f v g n) (staying (candidates_to f v g n) rows sums found) (candidates_to f v g n)
  pub rows_are : rows'
      ≡ cond (finite_to f v g n) (stay_rows (staying (candidates_to f v g n) rows sums found) rows) (result_rows (length rows) [])
  pub sums-are : sums'
      ≡ cond (finite_to f v g n) (stay_sums (staying (candidates_to f v g n) rows sums found) sums) (result_sums (length rows) [])
  pub table_is : table' ≡ cond (finite_to f v g n) table (fill zero32 (length table))

-- results of length k whose places are all blank
pub record Blank (k : ℕ) (rows : List ℕ) (sums : List Float) : Type 0 where
  pub rows-blank : rows ≡ result_rows k []
  pub sums-blank : sums ≡ result_sums k []
