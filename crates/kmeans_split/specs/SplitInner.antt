-- What the inner functions of step 5 leave in the slices that they are lent.
use Rattle.std.specs.Prelude.{ℕ, List, Float}
use Rattle.metrics.specs.Distance.{coordinate_in}
use Rattle.kmeans_split.specs.Split.{left_at}

-- a donor's slice after it gave
abbrev pub left_in : List Float → ℕ → Float
left_in s j = left_at (coordinate_in s) j
