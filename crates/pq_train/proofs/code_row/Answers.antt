use Rattle.std.proofs.Common.{◌<◌, length, arith}
use Rattle.lists.proofs.Tables.{tab-none, tab-step}
use Rattle.pq_train.proofs.code_row.Goals as goal

pub loop-s-init : goal.loop-s-init
loop-s-init c = tab-none _ _

pub loop-s-preserved : goal.loop-s-preserved
loop-s-preserved c =
    let i = c.loop-s in
    let h : i.s < length c.args.codes.now = omega arith in
    tab-step _ i.s _ _ _ 0 h i.invariant c.code_of.ensures
