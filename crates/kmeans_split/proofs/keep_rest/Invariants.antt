use Rattle.std.proofs.Common.{◌≡◌, ◌++◌, drop}
use Rattle.lists.specs.Lists.{tab}
use Rattle.kmeans_split.specs.SplitInner.{left_in}
use Rattle.kmeans_split.proofs.keep_rest.Given as goal

abbrev pub invariant-loop-j : goal.invariant-loop-j
invariant-loop-j l = l.center ≡ tab (left_in l.initial.center) l.j ++ drop l.j l.initial.center
