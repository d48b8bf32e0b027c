use Rattle.std.proofs.Common.{◌≡◌, ◌≤◌, ◌-◌, ◌++◌, length, take, drop}
use Rattle.cell_sums.specs.SumsInner.{sum_by, with_sums}
use Rattle.cell_sums.proofs.store_sums.Given as goal

abbrev pub invariant-loop-picked : goal.invariant-loop-picked
invariant-loop-picked l = record {
  within : l.j ≤ length l.initial.picked;
  long : length l.picked ≡ length l.initial.picked;
  stored : l.picked ≡ with_sums (sum_by l.t) (take l.j l.initial.picked) ++ drop l.j l.initial.picked;
}

abbrev pub decreases-loop-picked : goal.decreases-loop-picked
decreases-loop-picked l = length l.picked - l.j
