-- `walk_by_batch`: the rows passed are finite, and their candidates are offered and counted.
use Rattle.std.proofs.Common.{◌≡◌, refl, arith}
use lib.ListN.{length-take}
use Rattle.std.proofs.lemmas.Result.{err_from_is_err_and}
use Rattle.neighbor.specs.Gathered.{batch_of, runs}
use Rattle.cell_codes.specs.Codes.{row_at, visible}
use Rattle.cell_stretch.specs.StretchInner.{sums_of}
use Rattle.cell_walk.proofs.Walks.{gathered-start, offered-start, finite-start, count-start, candidates-few, still-gathered, stretch-broken, stretch-went, walked-broken, walked_through}
use Rattle.cell_walk.proofs.walk_by_batch.Goals as goal

pub loop-from-init : goal.loop-from-init
loop-from-init c =
    let z = c.args.z in
    let f = sums_of z c.args.centers c.args.table.now in record {
      within = omega arith;
      finite = finite-start f (visible z.mask.now) (row_at z);
      offered = offered-start f (visible z.mask.now) (row_at z) _;
      counted = count-start f (visible z.mask.now) (row_at z);
    }

pub visit_stretch-requires-clause-gathered : goal.visit_stretch-requires-clause-gathered
visit_stretch-requires-clause-gathered c =
    let a = c.args in
    let l = c.loop-from.invariant in
    still-gathered (sums_of a.z a.centers a.table.now) (visible a.z.mask.now) (row_at a.z) _ _ _ _ c.requires.ready.1 c.requires.batch_len _ _ l.finite l.offered

pub returns-in_err-went : goal.returns-in_err-went
returns-in_err-went c =
    let a = c.args in
    let l = c.loop-from in
    let e = c.stretch_end-to.ensures in
    let p = err_from_is_err_and c.from_residual.result c.from_residual.ensures.1 in
    let f = sums_of a.z a.centers a.table.now in
    rw (p.1, p.2)
    (walked-broken f (visible a.z.mask.now) (row_at a.z) a.z.n a.rows.now a.sums.now a.found _ _ c.stretch_end-to.result _ e.1
    (stretch-broken f (visible a.z.mask.now) (row_at a.z) l.from c.stretch_end-to.result (omega (arith, e.0)) (runs l.rows l.sums l.holds (batch_of l.batch l.waiting)) _ _ _ _ c.visit_stretch.ensures _ c.in_err-went.was))

pub overflow_add-scored : goal.overflow_add-scored
overflow_add-scored c =
    let a = c.args in
    let l = c.loop-from in
    let e = c.stretch_end-to.ensures in
    let f = sums_of a.z a.centers a.table.now in
    let E = stretch-went f (visible a.z.mask.now) (row_at a.z) l.from c.stretch_end-to.result (omega (arith, e.0)) (runs l.rows l.sums l.holds (batch_of l.batch l.waiting)) _ _ _ _ c.visit_stretch.ensures _ c.in_ok-went.was in
    omega (arith, l.invariant.counted, E.counted, candidates-few f (visible a.z.mask.now) (row_at a.z) c.stretch_end-to.result, e.1, c.requires.ready.0.rows-of.numbered.few)

pub loop-from-preserved : goal.loop-from-preserved
loop-from-preserved c =
    let a = c.args in
    let l = c.loop-from in
    let e = c.stretch_end-to.ensures in
    let f = sums_of a.z a.centers a.table.now in
    let E = stretch-went f (visible a.z.mask.now) (row_at a.z) l.from c.stretch_end-to.result (omega (arith, e.0)) (runs l.rows l.sums l.holds (batch_of l.batch l.waiting)) _ _ _ _ c.visit_stretch.ensures _ c.in_ok-went.was in
    record { within = e.1; finite = E.passed l.invariant.finite; offered = E.offered _ l.invariant.offered; counted = omega (arith, l.invariant.counted, E.counted) }

pub slice_bounds-merge-end : goal.slice_bounds-merge-end
slice_bounds-merge-end c =
    let a = c.args in
    let l = c.loop-from.invariant in
    let h = still-gathered (sums_of a.z a.centers a.table.now) (visible a.z.mask.now) (row_at a.z) _ _ _ _ c.requires.ready.1 c.requires.batch_len _ _ l.finite l.offered in
    omega (arith, h.room, h.within)

pub slice_bounds-merge-end-2 : goal.slice_bounds-merge-end-2
slice_bounds-merge-end-2 c =
    let a = c.args in
    let l = c.loop-from.invariant in
    let h = still-gathered (sums_of a.z a.centers a.table.now) (visible a.z.mask.now) (row_at a.z) _ _ _ _ c.requires.ready.1 c.requires.batch_len _ _ l.finite l.offered in
    simp length-take (omega (arith, h.room, h.within))

pub merge-found-requires : goal.merge-found-requires
merge-found-requires c =
    let a = c.args in
    let l = c.loop-from.invariant in
    let h = still-gathered (sums_of a.z a.centers a.table.now) (visible a.z.mask.now) (row_at a.z) _ _ _ _ c.requires.ready.1 c.requires.batch_len _ _ l.finite l.offered in
    (h.results, h.batch)

pub returns : goal.returns
returns c =
    let a = c.args in
    let m = c.loop-from in
    let l = m.invariant in
    let start = gathered-start c.args.rows.now c.args.sums.now c.args.found c.args.batch.now c.requires.ready.1 c.requires.batch_len in
    let e : m.from ≡ a.z.n = omega (arith, c.loop-from-test.false) in
    walked_through (sums_of a.z a.centers a.table.now) (visible a.z.mask.now) (row_at a.z) a.z.n a.rows.now a.sums.now a.found _ _
    (batch_of a.batch.now 0) (runs m.rows m.sums m.holds (batch_of m.batch m.waiting)) _ _ _ refl start (rw e at l.finite) (rw e at l.offered) (rw e at l.counted)
    refl c.merge-found.ensures
