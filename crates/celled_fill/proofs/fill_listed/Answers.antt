-- `fill_listed`: the rows of the list that are passed have their codes.
use mathlib.Core.Path.{◌≡◌, refl, ◌∙◌}
use native.Mathlib.Omega.{arith}
use lib.ListN.{length}
use Rattle.lists.proofs.Parts.{length-part}
use Rattle.celled_fill.specs.FillInner.{code_listed}
use Rattle.celled_fill.proofs.Codes.{coded_none, coded-more}
use Rattle.celled_fill.proofs.fill_listed.Goals as goal

pub loop-m-init : goal.loop-m-init
loop-m-init c = coded_none _ _ _ _

pub fill_row-requires : goal.fill_row-requires
fill_row-requires c =
    let p = c.requires in
    let row = p.row-held c.loop-m.m-index c.loop-m-test.true in (
      record { good = p.good; row-long = length-part c.args.l.rows.now _ _ row; center-long = p.center-long; subs-long = p.subs-long },
      row,
      omega (arith, p.code-held c.loop-m.m-index c.loop-m-test.true, c.loop-m.auto.codes),
    )

pub loop-m-preserved : goal.loop-m-preserved
loop-m-preserved c =
    let a = c.args in
    let i = c.loop-m in
    rw i.invariant at c.fill_row.ensures ∙ coded-more (code_listed a.l a.subs.now) _ a.list.now a.codes.now i.m-index _ refl

pub returns : goal.returns
returns c =
    let i = c.loop-m in
    let e : i.m-index ≡ length c.args.list.now = omega (arith, c.loop-m-test.false) in
    rw e at i.invariant
