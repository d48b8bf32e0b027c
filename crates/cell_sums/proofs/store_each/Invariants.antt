use Rattle.std.proofs.Common.{◌≡◌, ◌++◌, take, drop}
use Rattle.cell_sums.specs.SumsInner.{sum_by, with_sums}
use Rattle.cell_sums.proofs.store_each.Given as goal

abbrev pub invariant-loop-c : goal.invariant-loop-c
invariant-loop-c l = l.c-items ≡ with_sums (sum_by l.t) (take l.c-index l.initial.c-items) ++ drop l.c-index l.initial.c-items
