use Rattle.std.proofs.Common.{◌≡◌}
use Rattle.lists.specs.Lists.{tab}
use Rattle.kmeans_assign.specs.Task.{row_given}
use Rattle.kmeans_start.specs.StartInner.{column_sum}
use Rattle.kmeans_start.proofs.sum_rows.Given as goal

abbrev pub invariant-loop-k : goal.invariant-loop-k
invariant-loop-k l = l.sums ≡ tab (column_sum (row_given l.g) l.k) l.g.frame.w
