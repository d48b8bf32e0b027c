use Rattle.std.proofs.Common.{◌≡◌, ◌≤◌, ◌++◌, length, drop}
use Rattle.lists.specs.Lists.{tab}
use Rattle.lending.specs.Listed.{in_list}
use Rattle.lending.proofs.listed.write.Given as goal

abbrev pub invariant-loop-j : goal.invariant-loop-j
invariant-loop-j g l =
    (l.j ≤ length l.initial.out) × (length l.out ≡ length l.initial.out) × (l.out ≡ tab (in_list l.list l.rest) l.j ++ drop l.j l.initial.out)
