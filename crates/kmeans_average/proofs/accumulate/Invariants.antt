use Rattle.std.proofs.Common.{◌≡◌}
use Rattle.lists.specs.Lists.{tab, grid}
use Rattle.lists.proofs.Counts.{count_to}
use Rattle.kmeans_assign.specs.Task.{row_given}
use Rattle.kmeans_average.specs.AverageInner.{center_sum}
use Rattle.kmeans_average.proofs.accumulate.Given as goal

abbrev pub invariant-loop-k : goal.invariant-loop-k
invariant-loop-k l = record {
  centers-are : l.centers ≡ grid (center_sum (row_given l.g) l.assigned l.k) l.g.frame.centers l.g.frame.w;
  counts-are : l.counts ≡ tab (count_to l.assigned l.k) l.g.frame.centers;
}
