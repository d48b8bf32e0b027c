use Prim.Native.Nat.{◌≤◌, ◌<◌}
use mathlib.Core.Path.{◌≡◌}
use lib.ListN.{length}
use Rattle.std.specs.Prelude.{option_copied}
use Rattle.metrics.specs.Distance.{value_in}
use Rattle.kmeans_assign.specs.Assign.{distance_to, nearest}
use Rattle.kmeans_assign.proofs.nearest.Given as goal

abbrev pub invariant-loop-i : goal.invariant-loop-i
invariant-loop-i l =
    (0 < l.i) × (l.i ≤ l.n)
    × (l.best ≡ nearest (distance_to (value_in (option_copied l.residual) l.x) l.centers (length l.x)) l.i)
    × (l.least ≡ distance_to (value_in (option_copied l.residual) l.x) l.centers (length l.x) l.best)
