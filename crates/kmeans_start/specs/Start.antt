-- k-means' step 1: start.
use Rattle.std.specs.Prelude.{ℕ, ◌%◌, Bool, cond, ◌&&◌, List, pos, ◌==◌, from_bits, Float}
use Rattle.std.specs.Float.{binary32}
use Rattle.std.specs.Float.Ieee.{add, sub, div, of_int}
use Rattle.lists.specs.Lists.{grid}
use Rattle.metrics.specs.Distance.{zero32, sum_to}
use Rattle.kmeans_assign.specs.Task.{Task}

abbrev pub one32 : Float
one32 = from_bits binary32 0x3f80_0000

-- the values of coordinate j, by row
abbrev pub column : Task → ℕ → ℕ → Float
column t j k = t.value k j

-- mean = sum / n
unfoldable pub mean_at : Task → ℕ → Float
mean_at t j = div binary32 (sum_to (column t j) t.n) (of_int binary32 (pos t.n))

-- the same of the sum of any number of rows; that of none, an empty centre's in step 4, is zero
unfoldable pub mean_of : ℕ → Float → Float
mean_of rows sum = cond (rows == 0) zero32 (div binary32 sum (of_int binary32 (pos rows)))

-- i is odd and j is divisible by 64
abbrev pub raised : ℕ → ℕ → Bool
raised i j = i % 2 == 1 && j % 64 == 0

-- centre i has mean+1 there, else mean−1
unfoldable pub start_at : Task → ℕ → ℕ → Float
start_at t i j = cond (raised i j) (add binary32 (mean_at t j) one32) (sub binary32 (mean_at t j) one32)

abbrev pub started : Task → List Float
started t = grid (start_at t) t.centers t.w
