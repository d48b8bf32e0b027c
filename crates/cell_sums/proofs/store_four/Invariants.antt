use Rattle.std.proofs.Common.{◌≡◌, ◌++◌, take, drop}
use Rattle.cell_sums.specs.SumsInner.{sum_by, with_sums}
use Rattle.cell_sums.proofs.store_four.Given as goal

abbrev pub invariant-loop-k : goal.invariant-loop-k
invariant-loop-k l = l.picked ≡ with_sums (sum_by l.t) (take l.k l.initial.picked) ++ drop l.k l.initial.picked
