use Rattle.std.proofs.Common.{refl, ◌∙◌, arith}
use Rattle.lists.proofs.Joins.{within, grid-none, grid-step}
use Rattle.plain_train.proofs.AllRows.{row-coding}
use Rattle.plain_train.proofs.fill_codes.Goals as goal

pub loop-m-init : goal.loop-m-init
loop-m-init c = grid-none _ _ _

pub fill_row-requires : goal.fill_row-requires
fill_row-requires c =
    let l = c.args.l in
    let m = c.loop-m.m in
    let h = c.loop-m-test.true in
    (row-coding c.requires m h, omega (arith, within m l.n l.shape.d h, c.requires.rows_long), omega (arith, within m l.n l.shape.nsub h, c.requires.codes-long))

pub loop-m-preserved : goal.loop-m-preserved
loop-m-preserved c =
    let i = c.loop-m in
    (rw c.requires.plain at c.fill_row.ensures) ∙ grid-step _ i.m _ _ _ _ i.invariant refl
