-- What the inner functions of step 4 leave in the slices that they are lent.
use Rattle.std.specs.Prelude.{ℕ, ◌+◌, ◌*◌, List, Option, get_or, Float}
use Rattle.std.specs.Float.{nan}
use Rattle.lists.specs.Lists.{part, put_part, tab}
use Rattle.kmeans_assign.specs.Task.{Task}
use Rattle.kmeans_start.specs.Start.{column, mean_of}
use Rattle.kmeans_start.specs.StartInner.{added_at}
use Rattle.kmeans_average.specs.Average.{sum_where, is_of}

-- the sums of those of the first k rows that are assigned to centre i
abbrev pub center_sum : Task → List ℕ → ℕ → ℕ → ℕ → Float
center_sum t to k i j = sum_where (is_of to i) (column t j) k

-- centres, with the values of one more row added to centre a
unfoldable pub added_to : List Float → ℕ → ℕ → Option (List Float) → List Float → List Float
added_to cs a w r x = put_part cs (a * w) w (tab (added_at (part cs (a * w) w) r x) w)

-- centre i's sums as means
abbrev pub means_at : List Float → List ℕ → ℕ → ℕ → ℕ → Float
means_at cs counts w i j = mean_of (get_or counts i 0) (get_or cs (i * w + j) nan)
