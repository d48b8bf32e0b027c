use Rattle.std.proofs.Common.{◌≡◌, ◌*◌, ◌++◌, drop}
use Rattle.lists.specs.Lists.{grid}
use Rattle.plain_train.specs.TrainInner.{code_in}
use Rattle.plain_train.proofs.fill_codes.Given as goal

abbrev pub invariant-loop-m : goal.invariant-loop-m
invariant-loop-m l = l.codes ≡ grid (code_in l.l.shape l.l.rows.now l.subs) l.m l.l.shape.nsub ++ drop (l.m * l.l.shape.nsub) l.initial.codes
