-- `visit_stretch`: a sum is not finite, or all picked rows are offered.
use Rattle.std.proofs.lemmas.Result.{err_from_is_err_and}
use Rattle.neighbor.specs.Gathered.{batch_of, runs}
use Rattle.cell_codes.specs.Codes.{row_at, visible}
use Rattle.cell_stretch.specs.StretchInner.{sums_of}
use Rattle.cell_stretch.proofs.Stretches.{coded-stretch, picked-rows, picked-finite, visited-broken, visited-went}
use Rattle.cell_stretch.proofs.visit_stretch.Goals as goal

pub sum_picked-requires : goal.sum_picked-requires
sum_picked-requires c =
    let a = c.args in
    rw (← picked-rows c.pick_rows-count.ensures) (coded-stretch a.z a.centers a.table.now a.from a.to c.requires.ready.0 c.requires.ready.1.within)

pub returns-in_err-sum_picked : goal.returns-in_err-sum_picked
returns-in_err-sum_picked c =
    let a = c.args in
    let p = err_from_is_err_and c.from_residual.result c.from_residual.ensures.1 in
    rw (p.1, p.2)
    (visited-broken (sums_of a.z a.centers a.table.now) (visible a.z.mask.now) (row_at a.z) a.from a.to _ _ c.pick_rows-count.ensures _ _ c.sum_picked.ensures
    a.rows.now a.sums.now a.found a.batch.now a.waiting _ c.in_err-sum_picked.was)

pub offer_all-kept-requires-clause-finite : goal.offer_all-kept-requires-clause-finite
offer_all-kept-requires-clause-finite c =
    let a = c.args in
    picked-finite (sums_of a.z a.centers a.table.now) (visible a.z.mask.now) (row_at a.z) a.from a.to _ _ c.pick_rows-count.ensures _ _ c.sum_picked.ensures c.in_ok-sum_picked.was

pub returns : goal.returns
returns c =
    let a = c.args in
    visited-went (sums_of a.z a.centers a.table.now) (visible a.z.mask.now) (row_at a.z) a.from a.to _ _ c.pick_rows-count.ensures _ _ c.sum_picked.ensures
    (runs a.rows.now a.sums.now a.found (batch_of a.batch.now a.waiting)) _ _ _ _ c.in_ok-sum_picked.was c.offer_all-kept.ensures
