-- What one k-means is given: n rows, on one range of their coordinates, with or without a residual.
use Rattle.std.specs.Prelude.{ℕ, ◌+◌, ◌*◌, ◌≤◌, ◌<◌, ◌≡◌, List, [], Option, IfSome, option_copied, length, get_or, Float}
use Rattle.std.specs.Float.{nan}
use Rattle.lists.specs.Lists.{member_of}
use Rattle.metrics.specs.Distance.{value_of, residual_at}
use Rattle.kmeans_assign.specs.declared.Frame.{Frame}
use Rattle.kmeans_assign.specs.declared.Given.{Given}

pub record Task : Type 0 where
  -- the value of row k at coordinate j, counted from the range's begin: x, or x − residual
  pub value : ℕ → ℕ → Float
  -- the number of rows given to this k-means
  pub n : ℕ
  -- the width of the range
  pub w : ℕ
  -- n_center
  pub centers : ℕ
  pub epochs : ℕ
  pub draws : List Float

-- ---- the k-means that a frame and the slices lent beside it say

abbrev pub value_at : Frame → List Float → Option (List ℕ) → Option (List Float) → ℕ → ℕ → Float
value_at f rows members residual k j = value_of (residual_at residual j) (get_or rows (member_of members k * f.d + f.begin + j) nan)

abbrev pub task_of : Frame → List Float → Option (List ℕ) → Option (List Float) → ℕ → List Float → Task
task_of f rows members residual epochs draws = record {
  value = value_at f rows members residual;
  n = f.n;
  w = f.w;
  centers = f.centers;
  epochs = epochs;
  draws = draws;
}

-- the same as steps 1 to 4 see it: without its epochs and draws
abbrev pub row_task : Frame → List Float → Option (List ℕ) → Option (List Float) → Task
row_task f rows members residual = task_of f rows members residual 0 []

abbrev pub task_given : Given → ℕ → List Float → Task
task_given g epochs draws = task_of g.frame g.rows.now (option_copied g.members) (option_copied g.residual) epochs draws

abbrev pub row_given : Given → Task
row_given g = task_given g 0 []

-- the slices hold what the frame speaks of, within document 01's bounds
pub record Framed (f : Frame) (rows : List Float) (members : Option (List ℕ)) (residual : Option (List Float)) : Type 0 where
  pub some-row : 0 < f.n
  pub rows-le : f.n ≤ 100_001
  pub some-center : 0 < f.centers
  pub centers-le : f.centers ≤ 1024
  pub inside : f.begin + f.w ≤ f.d
  pub wide : f.w ≤ 256
  pub residual-long : IfSome residual (λ r. length r ≡ f.w)
  pub listed-long : IfSome members (λ l. f.n ≤ length l)
  pub held : (k : ℕ) → k < f.n → member_of members k * f.d + f.d ≤ length rows

abbrev pub FramedGiven : Given → Type 0
FramedGiven g = Framed g.frame g.rows.now (option_copied g.members) (option_copied g.residual)

-- where the range of row k begins
abbrev pub range_begin : Given → ℕ → ℕ
range_begin g k = member_of (option_copied g.members) k * g.frame.d + g.frame.begin

-- the range of row k lies within the rows
pub record RowHeld (g : Given) (k : ℕ) : Type 0 where
  pub listed-long : IfSome g.members (λ l. k < length l.now)
  pub held : range_begin g k + g.frame.w ≤ length g.rows.now
