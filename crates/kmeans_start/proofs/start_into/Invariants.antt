use Rattle.std.proofs.Common.{◌≡◌, ◌++◌, drop}
use Rattle.lists.specs.Lists.{tab}
use Rattle.kmeans_start.specs.StartInner.{start_from}
use Rattle.kmeans_start.proofs.start_into.Given as goal

abbrev pub invariant-loop-j : goal.invariant-loop-j
invariant-loop-j l = l.center ≡ tab (start_from l.mean l.i) l.j ++ drop l.j l.initial.center
