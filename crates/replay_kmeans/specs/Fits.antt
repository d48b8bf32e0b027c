-- What the tests at run time show of a frame and of the runs lent for writing.
use Rattle.std.specs.Prelude.{ℕ, ◌+◌, ◌*◌, ◌≤◌, ◌<◌, ◌≡◌, List, length, Float}
use Rattle.kmeans_assign.specs.declared.Frame.{Frame}

-- the numbers are within document 01's bounds
pub record Bounded (f : Frame) : Type 0 where
  pub some-row : 0 < f.n
  pub rows-le : f.n ≤ 100_001
  pub some-center : 0 < f.centers
  pub centers-le : f.centers ≤ 1024
  pub inside : f.begin + f.w ≤ f.d
  pub deep : f.d ≤ 256

-- the runs are as long as the frame says
pub record Long (f : Frame) (centers : List Float) (assigned counts : List ℕ) : Type 0 where
  pub centers-long : length centers ≡ f.centers * f.w
  pub assigned-long : length assigned ≡ f.n
  pub counts-long : length counts ≡ f.centers
