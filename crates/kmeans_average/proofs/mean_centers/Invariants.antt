use Rattle.std.proofs.Common.{◌≡◌, ◌*◌, ◌++◌, drop}
use Rattle.lists.specs.Lists.{grid}
use Rattle.kmeans_average.specs.AverageInner.{means_at}
use Rattle.kmeans_average.proofs.mean_centers.Given as goal

abbrev pub invariant-loop-i : goal.invariant-loop-i
invariant-loop-i l = l.centers ≡ grid (means_at l.initial.centers l.counts l.w) l.i l.w ++ drop (l.i * l.w) l.initial.centers
