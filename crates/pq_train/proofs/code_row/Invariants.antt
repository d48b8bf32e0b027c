use Rattle.std.proofs.Common.{◌≡◌, ◌++◌, drop, option_copied}
use Rattle.lists.specs.Lists.{tab}
use Rattle.pq_train.specs.Inner.{code_by}
use Rattle.pq_train.proofs.code_row.Given as goal

abbrev pub invariant-loop-s : goal.invariant-loop-s
invariant-loop-s l = l.codes ≡ tab (code_by l.l.shape l.x (option_copied l.l.center) l.subs) l.s ++ drop l.s l.initial.codes
