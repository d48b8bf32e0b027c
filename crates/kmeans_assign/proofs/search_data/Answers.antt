use Rattle.std.proofs.Common.{◌<◌, length, ◌∙◌, arith, lt_of_lt_of_le}
use Rattle.lists.proofs.Tables.{tab-none, tab-step}
use Rattle.kmeans_assign.proofs.Rows.{row-chosen}
use Rattle.kmeans_assign.proofs.Choosing.{nearest-lt}
use Rattle.kmeans_assign.proofs.search_data.Goals as goal

pub loop-k-init : goal.loop-k-init
loop-k-init c = tab-none _ _

pub overflow_cast-center : goal.overflow_cast-center
overflow_cast-center c =
    record { fits = rw c.nearest.ensures (lt_of_lt_of_le (nearest-lt _ _ c.requires.framed.some-center) (omega (arith, c.requires.framed.centers-le))) }

pub loop-k-preserved : goal.loop-k-preserved
loop-k-preserved c =
    let a = c.args in
    let h : c.loop-k.k < length a.assigned.now = omega arith in
    tab-step _ c.loop-k.k _ _ _ 0 h c.loop-k.invariant (c.nearest.ensures ∙ row-chosen a.g a.centers.now c.loop-k.k a.g.frame.centers c.row_range-x.ensures)
