use Rattle.std.proofs.Common.{◌≡◌, ◌*◌, ◌++◌, length, drop}
use Rattle.lists.specs.Lists.{grid}
use Rattle.kmeans_start.specs.StartInner.{start_from}
use Rattle.kmeans_start.proofs.start_centers.Given as goal

abbrev pub invariant-loop-i : goal.invariant-loop-i
invariant-loop-i l = l.centers ≡ grid (start_from l.mean) l.i (length l.mean) ++ drop (l.i * length l.mean) l.initial.centers
