-- Step 4: sums of one more row, and the averages from them.
use Prim.Native.Nat.{ℕ, ◌+◌, ◌*◌, ◌<◌}
use native.Mathlib.Nat.{lt_of_lt_of_le}
use mathlib.Core.Path.{◌≡◌, refl, sym, ◌∙◌, ap}
use Rattle.std.specs.Prelude.{Option}
use mathlib.Core.List.{List, ◌++◌}
use native.Mathlib.Omega.{arith}
use native.Mathlib.Numerals.{add-one}
use lib.ListN.{length, get_or, drop}
use lib.Ieee.{Float, nan, binary32, add}
use borrow.Author.Tests.{eq-eqb, ne_eqb}
use Rattle.lists.specs.Lists.{part, put_part, tab, grid}
use Rattle.lists.proofs.Tables.{length-tab, tab-ext, get_or-tab}
use Rattle.lists.proofs.Joins.{grid-ext, part-grid, put-grid, get_or-grid, grid-rest}
use Rattle.lists.proofs.Parts.{get_or-part}
use Rattle.metrics.specs.Distance.{value_in}
use Rattle.kmeans_assign.specs.declared.Frame.{Frame}
use Rattle.kmeans_assign.specs.declared.Given.{Given}
use Rattle.kmeans_assign.specs.Task.{task_given, row_given, Task}
use Rattle.kmeans_average.specs.Average.{Assigned, count_at, sum_where, average_at, averages_of, counts_of}
use Rattle.kmeans_start.specs.Start.{mean_of}
use Rattle.kmeans_assign.specs.Assign.{assigned_of, chosen_at}
use Rattle.kmeans_assign.proofs.Choosing.{nearest-lt}
use Rattle.kmeans_start.specs.StartInner.{added_at, mean_in}
use Rattle.kmeans_average.specs.AverageInner.{added_to, center_sum, means_at}

-- the k-th row is added to its own centre, and to no other
module _ (t : Task) (to : List ℕ) (k : ℕ) where
  own-sum : (j : ℕ) → center_sum t to (k + 1) (get_or to k 0) j ≡ add binary32 (center_sum t to k (get_or to k 0) j) (t.value k j)
  unfolding sum_where
  own-sum j = rw (add-one, eq-eqb (get_or to k 0) (get_or to k 0) refl)

  other-sum : (i : ℕ) → (i ≡ get_or to k 0 → ⊥) → (j : ℕ) → center_sum t to k i j ≡ center_sum t to (k + 1) i j
  unfolding sum_where
  other-sum i h j = rw (add-one, ne_eqb (get_or to k 0) i (λ e. h (sym e)))

pub center-step : (t : Task) (to : List ℕ) (k n w a : ℕ) (centers x : List Float) (r : Option (List Float)) → a < n → a ≡ get_or to k 0
    → centers ≡ grid (center_sum t to k) n w → ((j : ℕ) → j < w → value_in r x j ≡ t.value k j)
    → added_to centers a w r x ≡ grid (center_sum t to (k + 1)) n w
unfolding added_to
center-step t to k n w a centers x r h p e f =
    rw (p, e)
    (ap (put_part (grid (center_sum t to k) n w) (get_or to k 0 * w) w) (tab-ext _ _ w (λ j l. row j l))
    ∙ put-grid (center_sum t to k) (center_sum t to (k + 1)) n w (get_or to k 0) (omega arith) (λ i q j l. other-sum t to k i q j))
  where
    row : (j : ℕ) → j < w → added_at (part (grid (center_sum t to k) n w) (get_or to k 0 * w) w) r x j ≡ center_sum t to (k + 1) (get_or to k 0) j
    row j l = rw (part-grid (center_sum t to k) n w (get_or to k 0) (omega arith), get_or-tab _ w j nan l, f j l, own-sum t to k j)

-- the centre that row k is assigned to is one of them
pub own-below : {f : Frame} {to : List ℕ} {k a : ℕ} → Assigned f to → k < length to → a ≡ get_or to k 0 → a < f.centers
own-below {k = k} h l e = rw e (h.below k (omega (arith, h.long)))

-- the means of the sums are the averages
pub means-average : (t : Task) (to : List ℕ) (cs : List Float) (counts : List ℕ) → cs ≡ grid (center_sum t to t.n) t.centers t.w → counts ≡ counts_of t to
    → grid (means_at cs counts t.w) t.centers t.w ≡ averages_of t to
unfolding average_at
means-average t to cs counts e f =
    grid-ext _ _ t.centers t.w (λ i h j l. rw (e, f, get_or-tab (count_at t to) t.centers i 0 h, get_or-grid (center_sum t to t.n) t.centers t.w i j nan h l))

-- the means of one stretch of sums that no mean has replaced yet
pub means-stretch : (cs : List Float) (counts : List ℕ) (w i : ℕ) (now : List Float) → now ≡ grid (means_at cs counts w) i w ++ drop (i * w) cs
    → tab (mean_in (part now (i * w) w) (get_or counts i 0)) w ≡ tab (means_at cs counts w i) w
means-stretch cs counts w i now e =
    tab-ext _ _ w (λ j h. ap (mean_of (get_or counts i 0)) (ap (λ (l : List Float). get_or l j nan) (grid-rest (means_at cs counts w) i w cs now e) ∙ get_or-part cs (i * w) w j nan h))

-- each row is assigned to one of the centres
pub assigned-of : (f : Frame) (t : Task) (cs : List Float) (to : List ℕ) → t.n ≡ f.n → t.centers ≡ f.centers → 0 < f.centers → to ≡ assigned_of t cs → Assigned f to
assigned-of f t cs to p q h e = record {
  long = ap length e ∙ length-tab (chosen_at t cs) t.n ∙ p;
  below = λ k l. rw (e, get_or-tab (chosen_at t cs) t.n k 0 (omega arith)) (lt_of_lt_of_le (nearest-lt _ t.centers (omega arith)) (omega arith));
}

-- averages look at no draws
average-same : (g : Given) (draws : List Float) (epochs : ℕ) (to : List ℕ) (i j : ℕ) → average_at (row_given g) to i j ≡ average_at (task_given g epochs draws) to i j
unfolding average_at
average-same g draws epochs to i j = refl

pub averages-same : (g : Given) (draws : List Float) (epochs : ℕ) (to : List ℕ) → averages_of (row_given g) to ≡ averages_of (task_given g epochs draws) to
averages-same g draws epochs to = grid-ext _ _ g.frame.centers g.frame.w (λ i h j l. average-same g draws epochs to i j)
