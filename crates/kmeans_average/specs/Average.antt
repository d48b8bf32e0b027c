-- k-means' step 4: average, of rows that are assigned to the centres `to`.
use Rattle.std.specs.Prelude.{ℕ, zero, suc, ◌<◌, ◌≡◌, List, Bool, cond, length, get_or, eqb, Float}
use Rattle.std.specs.Float.{binary32}
use Rattle.std.specs.Float.Ieee.{add}
use Rattle.lists.specs.Lists.{tab, grid}
use Rattle.lists.specs.Tests.{count}
use Rattle.metrics.specs.Distance.{zero32}
use Rattle.kmeans_assign.specs.Task.{Task}
use Rattle.kmeans_assign.specs.declared.Frame.{Frame}
use Rattle.kmeans_start.specs.Start.{column, mean_of}

-- each row has one of the centres
pub record Assigned (f : Frame) (to : List ℕ) : Type 0 where
  pub long : length to ≡ f.n
  pub below : (k : ℕ) → k < f.n → get_or to k 0 < f.centers

abbrev pub is_of : List ℕ → ℕ → ℕ → Bool
is_of to i k = eqb (get_or to k 0) i

-- the rows of centre i
abbrev pub count_at : Task → List ℕ → ℕ → ℕ
count_at t to i = count (is_of to i) t.n

-- the sum from +0.0, in row order, of f over the rows k below n that p holds of
unfoldable pub sum_where : (ℕ → Bool) → (ℕ → Float) → ℕ → Float
sum_where p f zero = zero32
sum_where p f (suc k) = let s = sum_where p f k in cond (p k) (add binary32 s (f k)) s

-- an empty centre becomes all zero, as `mean_of` says
unfoldable pub average_at : Task → List ℕ → ℕ → ℕ → Float
average_at t to i j = mean_of (count_at t to i) (sum_where (is_of to i) (column t j) t.n)

abbrev pub averages_of : Task → List ℕ → List Float
averages_of t to = grid (average_at t to) t.centers t.w

abbrev pub counts_of : Task → List ℕ → List ℕ
counts_of t to = tab (count_at t to) t.centers
