use Rattle.std.proofs.Common.{◌≤◌, Bool, List}
use Rattle.std.specs.Fn.{FnReturnsAt}
use Rattle.recorded.proofs.Walked.{Walked}
use Rattle.recorded.proofs.replay.replayed.Given as goal

abbrev pub invariant-loop-i : goal.invariant-loop-i
invariant-loop-i g l = (l.i ≤ l.i-end) × ((answers : List Bool) × Walked (FnReturnsAt g.F.Fn l.agrees) l.file l.kind l.t l.at l.i answers)
