-- Cell after cell: the results hold the first k of the candidates of the cells passed, and at the end of all.
use Prim.Native.Nat.{ℕ, ◌+◌, ◌*◌, ◌≤◌, ◌<◌}
use mathlib.Core.Path.{◌≡◌, refl, sym, ◌∙◌, ap}
use mathlib.Core.Bool.{true}
use mathlib.Core.List.{List, ◌++◌}
use native.Mathlib.Nat.{suc-mul}
use native.Mathlib.Numerals.{add-one}
use native.Mathlib.Omega.{arith}
use borrow.Author.Count.{below_none, below_more}
use lib.ListN.{length, get_or, length-append}
use lib.Ieee.{Float}
use Rattle.std.specs.Prelude.{Ok, Err}
use Rattle.answers.specs.declared.Found.{Found}
use Rattle.answers.specs.declared.Refusal.{Refusal}
use Rattle.answers.specs.Answers.{Searched}
use Rattle.lists.specs.Lists.{join, fill}
use Rattle.lists.proofs.Tests.{every_of, every-false}
use Rattle.metrics.specs.Distance.{zero32}
use Rattle.neighbor.specs.declared.Candidate.{Candidate}
use Rattle.neighbor.specs.Neighbor.{first_of}
use Rattle.cell_table.specs.Tables.{Cell}
use Rattle.cell_walk.specs.Candidates.{cell_finite, candidates}
use Rattle.cell_walk.specs.Results.{Lent, lent, search_out, asked_of, answer_of}
use Rattle.cell_walk.specs.CellInner.{cell_outcome}
use Rattle.cell_walk.proofs.Cells.{Holding, Next, holding-none, holding-next, cell-refused, cell-done, cell-broke, candidates-few}
use Rattle.probed_cells.specs.Search.{Asked, probed, cell_at, probed_cell, probed_finite, all_candidates}
use Rattle.probed_cells.specs.ProbedInner.{Probing, Cleared, probed_outcome}
use Rattle.probed_cells.proofs.ProbedCells.{probed-is, probed-few, probed-rows}

module _ (a : Asked) where
  -- the candidates of the first p probed cells
  abbrev candidates_to : ℕ → List Candidate
  candidates_to p = join (λ (i : ℕ). candidates (probed_cell a i)) p

  pub record Reached (k p : ℕ) (rows : List ℕ) (sums : List Float) (found scored : ℕ) : Type 0 where
    pub finite-so : (i : ℕ) → i < p → cell_finite (probed_cell a i) ≡ true
    pub holds : Holding k (candidates_to p) rows sums found
    pub counted : scored ≡ length (candidates_to p)
    pub few : scored ≤ p * 100_001

  pub reached-none : (l : Lent) → Cleared l → Reached (asked_of l) 0 l.rows l.sums 0 0
  unfolding join
  reached-none l b = record {
    finite-so = below_none _;
    holds = holding-none (asked_of l) l.rows l.sums b.rows-blank b.sums-blank;
    counted = refl;
    few = omega arith;
  }

  module _ (list : List ℕ) (table₀ : List Float) (w : Probing a list table₀) where
    module _ (k p : ℕ) (h : p < length list) (rows : List ℕ) (sums table : List Float) (found scored : ℕ) (R : Reached k p rows sums found scored)
        (r : Searched) (rows' : List ℕ) (sums' table' : List Float) (out : search_out r rows' sums' table' ≡ cell_outcome (cell_at a (get_or list p 0)) (lent rows sums table) found) where
      abbrev here : Cell
      here = probed_cell a p

      e : search_out r rows' sums' table' ≡ cell_outcome here (lent rows sums table) found
      e = out ∙ ap (λ (m : ℕ). cell_outcome (cell_at a m) (lent rows sums table) found) (probed-is a list table₀ w p)

      more : cell_finite here ≡ true → Next k (candidates_to p) here r rows' sums'
      more t = holding-next k (candidates_to p) here rows sums table found r rows' sums' table' R.holds t e

      module _ (kept : Found) (d : r ≡ Ok kept) where
        finite-here : cell_finite here ≡ true
        finite-here = cell-done here (lent rows sums table) found r rows' sums' table' e kept d

        kept-is : kept ≡ record { found = length (first_of k (candidates_to p ++ candidates here)); scored = length (candidates here) }
        kept-is = let x = sym d ∙ (more finite-here).answer in cc

        -- a cell counts no more rows than it has
        counted-few : kept.scored ≤ 100_001
        counted-few = omega (arith, candidates-few here, probed-rows a list table₀ w p h, ap (λ (f : Found). f.scored) kept-is)

        -- so all that is counted is far below 2 ^ 64
        pub all-few : scored + kept.scored ≤ 1025 * 100_001
        all-few = omega (arith, counted-few, R.few, probed-few a list table₀ w, h)

        -- one more cell
        pub reached-more : Reached k (p + 1) rows' sums' kept.found (scored + kept.scored)
        unfolding join
        reached-more = rw add-one (record {
          finite-so = rw add-one at (below_more _ _ R.finite-so finite-here);
          holds = rw kept-is (more finite-here).holds;
          counted = omega (arith, length-append (candidates_to p) (candidates here), R.counted, ap (λ (f : Found). f.scored) kept-is);
          few = omega (arith, suc-mul p 100_001, R.few, counted-few);
        })

      -- the first that is refused ends the walk
      pub reached-not : (l : Lent) (why : Refusal) → asked_of l ≡ length rows → length l.table ≡ length table → r ≡ Err why → search_out r rows' sums' table' ≡ probed_outcome a l
      unfolding probed_finite
      reached-not l why m v d =
          let t = cell-broke here (lent rows sums table) found r rows' sums' table' e why d in
          let q = cell-refused here (lent rows sums table) found r rows' sums' table' t e in
          rw (every-false (λ (i : ℕ). cell_finite (probed_cell a i)) (length (probed a)) p (rw w.list-is at h) t, q.0, q.1, q.2, q.3, m, v)

    pub reached-all : (l : Lent) (rows : List ℕ) (sums table : List Float) (found scored n : ℕ) → Reached (asked_of l) (length list) rows sums found scored
        → table ≡ fill zero32 n → n ≡ length l.table → search_out (answer_of found scored) rows sums table ≡ probed_outcome a l
    unfolding probed_finite all_candidates
    reached-all l rows sums table found scored n R z v =
        let S = rw (ap length w.list-is) at R in
        let t = every_of (λ (i : ℕ). cell_finite (probed_cell a i)) (length (probed a)) S.finite-so in
        rw (t, S.counted, S.holds.found-is, S.holds.rows_are, S.holds.sums-are, z, v)
