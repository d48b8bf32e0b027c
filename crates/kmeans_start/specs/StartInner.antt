-- What the inner functions of step 1 leave in the slices that they are lent.
use Rattle.std.specs.Prelude.{ℕ, cond, List, Option, slice_index_or, Float}
use Rattle.std.specs.Float.{nan, binary32}
use Rattle.std.specs.Float.Ieee.{add, sub}
use Rattle.lists.specs.Lists.{tab}
use Rattle.metrics.specs.Distance.{value_in, sum_to}
use Rattle.kmeans_assign.specs.Task.{Task}
use Rattle.kmeans_start.specs.Start.{column, mean_of, raised, one32}

-- sums with the values of one more row
abbrev pub added_at : List Float → Option (List Float) → List Float → ℕ → Float
added_at sums r x j = add binary32 (slice_index_or sums j nan) (value_in r x j)

-- the sums of the first k rows
abbrev pub column_sum : Task → ℕ → ℕ → Float
column_sum t k j = sum_to (column t j) k

-- sums as means
abbrev pub mean_in : List Float → ℕ → ℕ → Float
mean_in sums rows j = mean_of rows (slice_index_or sums j nan)

-- the means of all rows
abbrev pub means_of : Task → List Float
means_of t = tab (mean_in (tab (column_sum t t.n) t.w) t.n) t.w

-- centre i of the start, from the mean
abbrev pub start_from : List Float → ℕ → ℕ → Float
start_from mean i j = cond (raised i j) (add binary32 (slice_index_or mean j nan) one32) (sub binary32 (slice_index_or mean j nan) one32)
