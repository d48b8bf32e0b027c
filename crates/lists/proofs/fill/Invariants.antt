use Rattle.std.proofs.Common.{◌≡◌, ◌++◌, drop}
use Rattle.lists.specs.Lists.{fill}
use Rattle.lists.proofs.fill.Given as goal

abbrev pub invariant-loop-i : goal.invariant-loop-i
invariant-loop-i g l = l.s ≡ fill l.v l.i ++ drop l.i l.initial.s
