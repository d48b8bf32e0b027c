-- `store_each`: the rows passed have their sums.
use Rattle.std.proofs.Common.{◌∙◌, ap}
use Rattle.cell_sums.specs.SumsInner.{sum_by}
use Rattle.cell_sums.proofs.Summing.{coded-at, stored-step, mapped-done}
use Rattle.cell_sums.proofs.store_each.Goals as goal

pub row_sum-c-requires : goal.row_sum-c-requires
row_sum-c-requires c = coded-at c.args.t c.args.picked.now c.requires c.loop-c.c-index c.loop-c.c-items _ c.loop-c-test.true c.loop-c.invariant c.wide.ensures

pub loop-c-preserved : goal.loop-c-preserved
loop-c-preserved c =
    stored-step c.args.t c.args.picked.now c.requires c.loop-c.c-index c.loop-c.c-items _ c.loop-c-test.true c.loop-c.invariant (c.row_sum-c.ensures ∙ ap (sum_by c.args.t) c.wide.ensures)

pub returns : goal.returns
returns c = mapped-done _ _ c.loop-c.c-index _ c.loop-c-test.false c.loop-c.invariant
