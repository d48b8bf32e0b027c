-- k-means' step 3: assign. (Step 2, the distance, is `distance` of metrics.)
use Rattle.std.specs.Prelude.{ℕ, zero, suc, List, Bool, true, false, cond, Option, Some, None, Float}
use Rattle.std.specs.Float.Ieee.{lt}
use Rattle.lists.specs.Lists.{tab}
use Rattle.metrics.specs.Distance.{coordinate, distance}
use Rattle.kmeans_assign.specs.Task.{Task}

-- A distance that is not finite is never less than another, and every finite distance is less than it.
abbrev pub less_of : Option Float → Option Float → Bool
less_of (Some x) (Some y) = lt x y
less_of (Some x) None = true
less_of None d = false

-- From centre 0, a later centre replaces the best only if strictly less: the best of the first n, centre i being at distance d i.
-- (Centre 0 is not less than itself.)
unfoldable pub nearest : (ℕ → Option Float) → ℕ → ℕ
nearest d zero = 0
nearest d (suc i) = let best = nearest d i in cond (less_of (d i) (d best)) i best

-- the centre, of n centres cs of width w, that the values x are assigned to
abbrev pub distance_to : (ℕ → Float) → List Float → ℕ → ℕ → Option Float
distance_to x cs w i = distance x (coordinate cs w i) w

abbrev pub chosen : (ℕ → Float) → List Float → ℕ → ℕ → ℕ
chosen x cs w n = nearest (distance_to x cs w) n

-- the centre of row k, and of each row
abbrev pub chosen_at : Task → List Float → ℕ → ℕ
chosen_at t cs k = chosen (t.value k) cs t.w t.centers

abbrev pub assigned_of : Task → List Float → List ℕ
assigned_of t cs = tab (chosen_at t cs) t.n
