-- `store_four`: the rows passed have their sums.
use Rattle.std.proofs.Common.{sym, subst, List, ℕ, arith}
use Rattle.cell_sums.specs.SumsInner.{AllCoded}
use Rattle.cell_sums.proofs.Summing.{four-rows, four-at, stored-step, mapped-done}
use Rattle.cell_sums.proofs.store_four.Goals as goal

pub four_sums-sums-requires : goal.four_sums-sums-requires
four_sums-sums-requires c =
    let m = four-rows c.args.picked.now _ _ _ _ c.requires.four c.wide.ensures c.wide-2.ensures c.wide-3.ensures c.wide-4.ensures in
    let P : List ℕ → Type 0 = AllCoded c.args.t in
    subst P (sym m) c.requires.coded

pub loop-k-preserved : goal.loop-k-preserved
loop-k-preserved c =
    let m = four-rows c.args.picked.now _ _ _ _ c.requires.four c.wide.ensures c.wide-2.ensures c.wide-3.ensures c.wide-4.ensures in
    stored-step c.args.t c.args.picked.now c.requires.coded c.loop-k.k c.loop-k.picked _ (omega (arith, c.requires.four)) c.loop-k.invariant
    (four-at c.args.t c.args.picked.now c.requires.coded _ _ c.loop-k.k c.loop-k.picked c.four_sums-sums.ensures m c.requires.four (omega (arith, c.requires.four, c.loop-k-test.true)) c.loop-k.invariant)

pub returns : goal.returns
returns c = mapped-done _ _ c.loop-k.k _ (omega (arith, c.requires.four)) c.loop-k.invariant
