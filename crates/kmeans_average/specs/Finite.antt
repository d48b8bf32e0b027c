-- The test for 9: whether all of centre i is finite, and the lowest of n centres that is not.
use Rattle.std.specs.Prelude.{ℕ, List, Bool, cond, not, Option, Some, None, ltb, Float}
use Rattle.std.specs.Float.Ieee.Scale.{finite}
use Rattle.lists.specs.Tests.{every, first}
use Rattle.metrics.specs.Distance.{coordinate}

abbrev pub finite_coordinate : List Float → ℕ → ℕ → ℕ → Bool
finite_coordinate cs w i j = finite (coordinate cs w i j)

unfoldable pub finite_center : List Float → ℕ → ℕ → Bool
finite_center cs w i = every (finite_coordinate cs w i) w

abbrev pub broken_center : List Float → ℕ → ℕ → Bool
broken_center cs w i = not (finite_center cs w i)

-- the lowest number below n at which f holds, if there is one
unfoldable pub lowest : (ℕ → Bool) → ℕ → Option ℕ
lowest f n = let i = first f n in cond (ltb i n) (Some i) None

abbrev pub lowest_broken : List Float → ℕ → ℕ → Option ℕ
lowest_broken cs w n = lowest (broken_center cs w) n
