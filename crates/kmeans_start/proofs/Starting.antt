-- Step 1: sums of one more row, means of all rows, and the start from the means.
use Rattle.std.proofs.Common.{◌≡◌, ℕ, ◌+◌, ◌<◌, List, Option, length, get_or, refl, ◌∙◌, add-one, arith, ne_eqb}
use lib.Ieee.{Float, nan}
use Rattle.lists.specs.Lists.{tab, grid}
use Rattle.lists.proofs.Tables.{length-tab, tab-ext, get_or-tab}
use Rattle.lists.proofs.Joins.{grid-ext}
use Rattle.metrics.specs.Distance.{value_in, sum_to}
use Rattle.kmeans_assign.specs.declared.Given.{Given}
use Rattle.kmeans_assign.specs.Task.{task_given, row_given, Task}
use Rattle.kmeans_start.specs.Start.{mean_of, started, start_at, mean_at}
use Rattle.kmeans_start.specs.StartInner.{added_at, column_sum, mean_in, means_of, start_from}

-- the sums of one more row
pub column-step : (t : Task) (k w : ℕ) (sums x : List Float) (r : Option (List Float)) → sums ≡ tab (column_sum t k) w → ((j : ℕ) → j < w → value_in r x j ≡ t.value k j)
    → tab (added_at sums r x) (length sums) ≡ tab (column_sum t (k + 1)) w
unfolding sum_to
column-step t k w sums x r e f =
    rw (e, length-tab) (tab-ext _ _ w (λ j h. rw (get_or-tab (column_sum t k) w j nan h, f j h, add-one)))

-- the means of the sums of all rows
pub means-of : (t : Task) (sums mean : List Float) → sums ≡ tab (column_sum t t.n) t.w → mean ≡ tab (mean_in sums t.n) (length sums) → mean ≡ means_of t
means-of t sums mean e f = f ∙ rw (e, length-tab)

-- the start from the mean is the start
pub start-mean : (t : Task) (mean : List Float) → 0 < t.n → mean ≡ means_of t
    → grid (start_from mean) t.centers t.w ≡ started t
unfolding start_at mean_at mean_of
start-mean t mean h e =
    grid-ext _ _ t.centers t.w (λ i p j q.
    let z : get_or mean j nan ≡ mean_at t j =
    rw (e, get_or-tab (mean_in (tab (column_sum t t.n) t.w) t.n) t.w j nan q, get_or-tab (column_sum t t.n) t.w j nan q, ne_eqb t.n 0 (λ n. omega arith))
    in rw z)

-- the start looks at no draws
start-same : (g : Given) (draws : List Float) (epochs i j : ℕ) → start_at (row_given g) i j ≡ start_at (task_given g epochs draws) i j
unfolding start_at mean_at
start-same g draws epochs i j = refl

pub started-same : (g : Given) (draws : List Float) (epochs : ℕ) → started (row_given g) ≡ started (task_given g epochs draws)
started-same g draws epochs = grid-ext _ _ g.frame.centers g.frame.w (λ i h j l. start-same g draws epochs i j)
