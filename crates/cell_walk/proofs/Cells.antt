-- Cell after cell: where the results hold the first k of some candidates, they then hold the first k of these and the cell's.
use Prim.Native.Nat.{ℕ, suc, ◌+◌, ◌-◌, ◌≤◌}
use mathlib.Core.Path.{◌≡◌, refl, sym, ◌∙◌, ap, ap₂}
use mathlib.Core.Bool.{Bool, true, false, cond, ◌&&◌}
use mathlib.Core.List.{List, [], ◌∷◌, ◌++◌, map}
use native.Mathlib.Omega.{arith}
use borrow.Author.Tests.{eqb-true}
use lib.ListN.{length, take, drop, length-append, length-take, length-map}
use lib.Seq.{drop_at, drop-append-add, take-nil}
use lib.Ieee.{Float}
use Rattle.lists.specs.Lists.{tab, fill, grid}
use Rattle.lists.specs.Tests.{keep}
use Rattle.lists.proofs.Tables.{length-tab, fill-add, tab-get_or}
use Rattle.lists.proofs.Joins.{length-grid}
use Rattle.lists.proofs.Tests.{and_r}
use Rattle.metrics.specs.Distance.{zero32}
use Rattle.neighbor.specs.declared.Candidate.{Candidate}
use Rattle.neighbor.specs.Neighbor.{comes_before, insert_all, first_of, row_of, sum_of, blank_row, result_rows, result_sums}
use Rattle.neighbor.specs.Held.{FiniteSum, AllFinite, InOrder, held, Held}
use Rattle.neighbor.proofs.Held.{holds-exactly, holds-again, held_none}
use Rattle.neighbor.proofs.Insertion.{length_inserted}
use Rattle.neighbor.proofs.Order.{by-sum}
use Rattle.neighbor.proofs.Sorted.{all_take, all_inserted, sorted-take, sorted-inserted}
use Rattle.offers.proofs.Offers.{first_with, first-join}
use Rattle.std.specs.Prelude.{Some, None, Ok, Err}
use Rattle.answers.specs.declared.Found.{Found}
use Rattle.answers.specs.declared.Refusal.{Refusal}
use Rattle.answers.specs.declared.Refusal.TheVariants.{DistanceNotFinite}
use Rattle.answers.specs.Answers.{Searched}
use Rattle.pq_params.specs.Bounds.{centers_of}
use Rattle.pq_params.specs.Lengths.{table_long}
use Rattle.cell_table.specs.Tables.{Cell, entry_at, table_finite}
use Rattle.cell_codes.specs.Codes.{rows_of, visible_rows}
use Rattle.cell_sums.specs.Sums.{sum_at, sums_finite}
use Rattle.cell_walk.specs.Candidates.{nothing_shown, cell_finite, candidates}
use Rattle.cell_walk.specs.Results.{Lent, lent, SearchOut, search_out, asked_of, answer_of, blank}
use Rattle.cell_walk.specs.CellInner.{kept_of, table_after, cell_done, cell_outcome}
use Rattle.cell_sums.specs.SumsInner.{candidate_by}
use Rattle.cell_stretch.proofs.Stretches.{finite-candidates}

-- results that hold the first k of the candidates cs, in order, and blanks past them
pub record Holding (k : ℕ) (cs : List Candidate) (rows : List ℕ) (sums : List Float) (found : ℕ) : Type 0 where
  pub rows_are : rows ≡ result_rows k (first_of k cs)
  pub sums-are : sums ≡ result_sums k (first_of k cs)
  pub found-is : found ≡ length (first_of k cs)
  pub again : Held rows sums found

-- ---- blank places

fill-drop {ℓ} : {A : Type ℓ} (v : A) (j n : ℕ) → j ≤ n → drop j (fill v n) ≡ fill v (n - j)
fill-drop {A = A} v j n h =
    let e : n ≡ j + (n - j) = omega arith in
    ap (λ (l : List A). drop j l) (ap (fill v) e ∙ fill-add v j (n - j)) ∙ drop_at (fill v j) (fill v (n - j)) j (length-tab (λ (i : ℕ). v) j)

-- a run of length k that is blank behind p is blank from any later place on
blank-past {ℓ} : {A : Type ℓ} (v : A) (p : List A) (k n : ℕ) → length p ≤ n → n ≤ k → drop n (p ++ fill v (k - length p)) ≡ fill v (k - n)
blank-past {A = A} v p k n h g =
    let e : n ≡ length p + (n - length p) = omega arith in
    let d : (k - length p) - (n - length p) ≡ k - n = omega arith in
    ap (λ (m : ℕ). drop m (p ++ fill v (k - length p))) e
    ∙ drop-append-add p (fill v (k - length p)) (n - length p)
    ∙ fill-drop v (n - length p) (k - length p) (omega arith)
    ∙ ap (fill v) d

-- how long the results are
pub length-rows : (k : ℕ) (l : List Candidate) → length l ≤ k → length (result_rows k l) ≡ k
length-rows k l h = simp length-append (omega (arith, length-map l row_of, length-tab (λ (i : ℕ). blank_row) (k - length l)))

pub length-sums : (k : ℕ) (l : List Candidate) → length l ≤ k → length (result_sums k l) ≡ k
length-sums k l h = simp length-append (omega (arith, length-map l sum_of, length-tab (λ (i : ℕ). zero32) (k - length l)))

first-few : (k : ℕ) (cs : List Candidate) → length (first_of k cs) ≤ k
first-few k cs = omega (arith, length-take k (insert_all comes_before [] cs))

-- ---- before the first cell

first-nothing : (k : ℕ) → first_of k [] ≡ []
unfolding insert_all
first-nothing k = take-nil k

pub holding-none : (k : ℕ) (rows : List ℕ) (sums : List Float) → rows ≡ result_rows k [] → sums ≡ result_sums k [] → Holding k [] rows sums 0
holding-none k rows sums p q = record {
  rows_are = rw (first-nothing k) p;
  sums-are = rw (first-nothing k) q;
  found-is = rw (first-nothing k);
  again = held_none rows sums (ap length q ∙ length-sums k [] (omega arith) ∙ sym (ap length p ∙ length-rows k [] (omega arith)));
}

-- ---- one cell more

-- where all that is worked is finite, so is every candidate's sum
cell-candidates : (c : Cell) → cell_finite c ≡ true → AllFinite (candidates c)
unfolding cell_finite candidates
cell-candidates c t = go (nothing_shown c) refl t
  where
    go : (b : Bool) → nothing_shown c ≡ b → cond b true (table_finite c && sums_finite c) ≡ true → AllFinite (map (candidate_by (sum_at c)) (visible_rows c))
    go true e h = λ i k. absurd (omega (arith, length-map (visible_rows c) (candidate_by (sum_at c)), eqb-true (length (visible_rows c)) 0 e))
    go false e h = finite-candidates (sum_at c) (visible_rows c) (and_r (table_finite c) (sums_finite c) h)

-- what the results hold then, and the answer
pub record Next (k : ℕ) (cs : List Candidate) (c : Cell) (r : Searched) (rows' : List ℕ) (sums' : List Float) : Type 0 where
  pub answer : r ≡ answer_of (length (first_of k (cs ++ candidates c))) (length (candidates c))
  pub holds : Holding k (cs ++ candidates c) rows' sums' (length (first_of k (cs ++ candidates c)))

module _ (k : ℕ) (cs : List Candidate) (c : Cell) (rows : List ℕ) (sums table : List Float) (found : ℕ) (r : Searched) (rows' : List ℕ) (sums' table' : List Float)
    (H : Holding k cs rows sums found) (t : cell_finite c ≡ true) (e : search_out r rows' sums' table' ≡ cell_outcome c (lent rows sums table) found) where
  abbrev kept : List Candidate
  kept = kept_of c (lent rows sums table) found

  abbrev then : List Candidate
  then = first_of k (cs ++ candidates c)

  done : search_out r rows' sums' table' ≡ cell_done c (lent rows sums table) kept
  unfolding cell_outcome
  done = e ∙ rw t

  held-before : held rows sums found ≡ first_of k cs
  held-before =
      holds-exactly rows sums (first_of k cs) found (fill blank_row (k - length (first_of k cs))) (fill zero32 (k - length (first_of k cs))) (sym H.found-is) H.rows_are H.sums-are

  long : length rows ≡ k
  long = ap length H.rows_are ∙ length-rows k (first_of k cs) (first-few k cs)

  kept-is : kept ≡ then
  kept-is = ap₂ (λ (m : ℕ) (l : List Candidate). first_with m l (candidates c)) long held-before ∙ first-join k [] cs (candidates c)

  no-fewer : length (first_of k cs) ≤ length then
  no-fewer =
      let j = ap length (first-join k [] cs (candidates c)) in
      omega (arith, first-few k cs, j, length-take k (insert_all comes_before (first_of k cs) (candidates c)), length_inserted comes_before (first_of k cs) (candidates c))

  -- past those that stay the results are blank
  rows-blank : drop (length then) rows ≡ fill blank_row (k - length then)
  rows-blank =
      let m = length-map (first_of k cs) row_of in
      ap (drop (length then)) H.rows_are
      ∙ ap (λ (x : ℕ). drop (length then) (map row_of (first_of k cs) ++ fill blank_row (k - x))) (sym m)
      ∙ blank-past blank_row (map row_of (first_of k cs)) k (length then) (omega (arith, no-fewer)) (first-few k (cs ++ candidates c))

  sums-blank : drop (length then) sums ≡ fill zero32 (k - length then)
  sums-blank =
      let m = length-map (first_of k cs) sum_of in
      ap (drop (length then)) H.sums-are
      ∙ ap (λ (x : ℕ). drop (length then) (map sum_of (first_of k cs) ++ fill zero32 (k - x))) (sym m)
      ∙ blank-past zero32 (map sum_of (first_of k cs)) k (length then) (omega (arith, no-fewer)) (first-few k (cs ++ candidates c))

  rows_then : rows' ≡ map row_of then ++ drop (length then) rows
  rows_then = ap (λ (o : SearchOut). o.rows) done ∙ ap (λ (l : List Candidate). map row_of l ++ drop (length l) rows) kept-is

  sums-then : sums' ≡ map sum_of then ++ drop (length then) sums
  sums-then = ap (λ (o : SearchOut). o.sums) done ∙ ap (λ (l : List Candidate). map sum_of l ++ drop (length l) sums) kept-is

  then-finite : AllFinite then
  then-finite = rw (← kept-is) (all_take _ FiniteSum (length rows) _ (all_inserted _ FiniteSum comes_before (held rows sums found) (candidates c) H.again.all_finite (cell-candidates c t)))

  then-ordered : InOrder then
  then-ordered =
      rw (← kept-is)
      (sorted-take _ comes_before (length rows) _
      (sorted-inserted _ FiniteSum comes_before by-sum (held rows sums found) (candidates c) H.again.all_finite H.again.in_order (cell-candidates c t)))

  pub holding-next : Next k cs c r rows' sums'
  holding-next = record {
    answer = ap (λ (o : SearchOut). o.answer) done ∙ ap (λ (l : List Candidate). answer_of (length l) (length (candidates c))) kept-is;
    holds = record {
      rows_are = rows_then ∙ ap (λ (l : List ℕ). map row_of then ++ l) rows-blank;
      sums-are = sums-then ∙ ap (λ (l : List Float). map sum_of then ++ l) sums-blank;
      found-is = refl;
      again = holds-again rows sums then (length then) rows' sums' H.again.even refl (omega (arith, long, first-few k (cs ++ candidates c))) rows_then sums-then then-finite then-ordered;
    };
  }

-- ---- a cell that refuses

pub cell-refused : (c : Cell) (l : Lent) (found : ℕ) (r : Searched) (rows' : List ℕ) (sums' table' : List Float) → cell_finite c ≡ false
    → search_out r rows' sums' table' ≡ cell_outcome c l found
    → (r ≡ Err DistanceNotFinite) × (rows' ≡ result_rows (asked_of l) []) × (sums' ≡ result_sums (asked_of l) []) × (table' ≡ fill zero32 (length l.table))
unfolding cell_outcome
cell-refused c l found r rows' sums' table' f e =
    let b : search_out r rows' sums' table' ≡ blank l DistanceNotFinite = e ∙ rw f in
    (ap (λ (o : SearchOut). o.answer) b, ap (λ (o : SearchOut). o.rows) b, ap (λ (o : SearchOut). o.sums) b, ap (λ (o : SearchOut). o.table) b)

few-shown : (f : ℕ → Bool) (l : List ℕ) → length (keep f l) ≤ length l
unfolding keep
few-shown f [] = omega arith
few-shown f (x ∷ l) = go (f x) (few-shown f l)
  where
    go : (b : Bool) → length (keep f l) ≤ length l → length (cond b (x ∷ keep f l) (keep f l)) ≤ suc (length l)
    go true h = omega arith
    go false h = omega arith

-- a cell has no more candidates than rows
pub candidates-few : (c : Cell) → length (candidates c) ≤ length c.rows
unfolding candidates
candidates-few c = omega (arith, length-map (visible_rows c) (candidate_by (sum_at c)), few-shown c.shown c.rows)

-- ---- which of the two it was, and the table

module _ (c : Cell) (l : Lent) (found : ℕ) (r : Searched) (rows' : List ℕ) (sums' table' : List Float) (e : search_out r rows' sums' table' ≡ cell_outcome c l found) where
  pub cell-done : (a : Found) → r ≡ Ok a → cell_finite c ≡ true
  cell-done a d = go (cell_finite c) refl
    where
      go : (b : Bool) → cell_finite c ≡ b → cell_finite c ≡ true
      go true f = f
      go false f =
          let q : r ≡ Err DistanceNotFinite = (cell-refused c l found r rows' sums' table' f e).0 in
          cc

  pub cell-broke : (why : Refusal) → r ≡ Err why → cell_finite c ≡ false
  unfolding cell_outcome
  cell-broke why d = go (cell_finite c) refl
    where
      go : (b : Bool) → cell_finite c ≡ b → cell_finite c ≡ false
      go true f =
          let q : r ≡ (cell_done c l (kept_of c l found)).answer = ap (λ (o : SearchOut). o.answer) e ∙ rw f in
          cc
      go false f = f

  pub table-next : cell_finite c ≡ true → table' ≡ table_after c l.table
  unfolding cell_outcome
  table-next f = ap (λ (o : SearchOut). o.table) e ∙ rw f

-- a table stays as long as it is
pub table-after-long : (c : Cell) (table : List Float) → length table ≡ table_long c.shape → length (table_after c table) ≡ length table
table-after-long c table l = go (nothing_shown c)
  where
    go : (b : Bool) → length (cond b table (grid (entry_at c) c.shape.nsub (centers_of c.shape.bits))) ≡ length table
    go true = refl
    go false = length-grid (entry_at c) c.shape.nsub (centers_of c.shape.bits) ∙ sym l

-- ---- the rows of the two kinds of cell

pub rows_all : (n : ℕ) → rows_of None n ≡ tab (λ (m : ℕ). m) n
rows_all n = refl

pub rows-listed : (members : List ℕ) (n : ℕ) → n ≤ length members → rows_of (Some members) n ≡ take n members
rows-listed members n h = tab-get_or members n 0 h
