use Rattle.std.proofs.Common.{◌≡◌, ◌++◌, drop}
use Rattle.lists.specs.Lists.{tab}
use Rattle.kmeans_start.specs.StartInner.{mean_in}
use Rattle.kmeans_start.proofs.mean_into.Given as goal

abbrev pub invariant-loop-sum : goal.invariant-loop-sum
invariant-loop-sum l = l.sum-items ≡ tab (mean_in l.initial.sum-items l.rows) l.sum-index ++ drop l.sum-index l.initial.sum-items
