-- The search of a celled index as a whole: for any input, the answer and every lent buffer afterwards.
use Rattle.std.specs.Prelude.{ℕ, List, [], ◌∷◌, ◌++◌, Bool, cond, not, Float}
use Rattle.answers.specs.declared.Refusal.TheVariants.{Damaged, DistanceNotFinite}
use Rattle.answers.specs.Answers.{Checked, unless}
use Rattle.lists.specs.Tests.{any_of}
use Rattle.pq_params.specs.declared.CelledShape.{CelledShape}
use Rattle.pq_params.specs.declared.CelledLengths.{CelledLengths}
use Rattle.pq_params.specs.Bounds.{bad_celled}
use Rattle.pq_params.specs.Lengths.{celled_of}
use Rattle.pq_params.specs.Refusals.{not_long, search_tests}
use Rattle.celled_lists.specs.Index.{lengths_of, length_tests}
use Rattle.cell_walk.specs.Results.{Lent, SearchOut, asked_of, unchanged, blank, answered}
use Rattle.probed_cells.specs.Search.{Asked, asking, starts_good, coarse_finite, probed_sound, probed_finite, all_candidates}

pub record SearchIn : Type 0 where
  pub asked : Asked
  pub lent : Lent

-- what a promise builds of the inputs
abbrev pub search_in : CelledShape → ℕ → List Float → List ℕ → List Float → List ℕ → List ℕ
    → List Float → List ℕ → Lent → SearchIn
search_in s n query mask coarse starts members subs codes l =
    record { asked = asking s n query mask coarse starts members subs codes; lent = l }

-- 4: a buffer not of its length
abbrev pub search_lengths : CelledLengths → SearchIn → List Bool
search_lengths l i =
    length_tests l (lengths_of i.asked.index)
    ++ (not_long i.asked.query i.asked.index.shape.plain.d
    ∷ not_long i.asked.mask i.asked.index.n
    ∷ not_long i.lent.sums (asked_of i.lent)
    ∷ not_long i.lent.table l.table
    ∷ [])

-- tests 1, 3, 4, 5, 6
unfoldable pub search_refusal : SearchIn → Checked
search_refusal i =
    let x = i.asked.index in
    search_tests (bad_celled x.shape) x.n (any_of (search_lengths (celled_of x.shape x.n) i)) (asked_of i.lent) i.asked.query

-- The steps go in this order: 1, 2, 3, then 4 and 5.
unfoldable pub search_worked : Asked → Lent → SearchOut
search_worked a l =
    cond (not (starts_good a)) (blank l Damaged)
    (cond (not (coarse_finite a)) (blank l DistanceNotFinite)
    (cond (not (probed_sound a)) (blank l Damaged)
    (cond (not (probed_finite a)) (blank l DistanceNotFinite) (answered l (all_candidates a)))))

unfoldable pub search_outcome : SearchIn → SearchOut
search_outcome i = unless (search_refusal i) (search_worked i.asked i.lent) (unchanged i.lent)
