use Rattle.std.proofs.Common.{◌≡◌, ◌++◌, drop, option_copied}
use Rattle.lists.specs.Lists.{tab}
use Rattle.kmeans_start.specs.StartInner.{added_at}
use Rattle.kmeans_start.proofs.add_into.Given as goal

abbrev pub invariant-loop-j : goal.invariant-loop-j
invariant-loop-j l = l.sums ≡ tab (added_at l.initial.sums (option_copied l.residual) l.x) l.j ++ drop l.j l.initial.sums
