use Rattle.std.proofs.Common.{◌≡◌, ◌≤◌, ◌++◌, length, drop}
use Rattle.lists.specs.Lists.{tab}
use Rattle.recorded.proofs.layout.load.Given as goal

abbrev pub invariant-loop-j : goal.invariant-loop-j
invariant-loop-j g l =
    (l.j ≤ length l.initial.out) × (length l.out ≡ length l.initial.out) × (l.out ≡ tab (g.T.Recorded.value_at l.s l.at) l.j ++ drop l.j l.initial.out)
