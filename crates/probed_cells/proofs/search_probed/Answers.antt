-- `search_probed`: the results hold the first k of the cells passed, and the first cell that is refused ends the walk.
use Rattle.std.proofs.Common.{◌≡◌, length, arith, rules}
use Rattle.std.proofs.lemmas.Result.{err_from_is_err_and}
use Rattle.cell_walk.specs.Results.{lent}
use Rattle.probed_cells.specs.Search.{asking_in}
use Rattle.probed_cells.proofs.ProbedCells.{walking-at}
use Rattle.probed_cells.proofs.ProbedWalk.{reached-none, all-few, reached-more, reached-not, reached-all}
use Rattle.probed_cells.proofs.search_probed.Goals as goal

pub loop-c-init : goal.loop-c-init
loop-c-init c = let a = c.args in reached-none (asking_in a.a) (lent a.rows.now a.sums.now a.table.now) c.requires.cleared

pub search_listed-requires-clause-walking : goal.search_listed-requires-clause-walking
search_listed-requires-clause-walking c = walking-at _ _ _ c.requires.probing _ _ c.loop-c-test.true (search rules)

pub returns-in_err-kept : goal.returns-in_err-kept
returns-in_err-kept c =
    let a = c.args in
    let p = err_from_is_err_and c.from_residual.result c.from_residual.ensures.1 in
    let e = reached-not (asking_in a.a) _ _ c.requires.probing _ _ c.loop-c-test.true _ _ _ _ _ c.loop-c.invariant _ _ _ _ c.search_listed.ensures (lent a.rows.now a.sums.now a.table.now) _ (search rules) (search rules) c.in_err-kept.was in
    rw (p.1, p.2) (rw c.in_err-kept.was at e)

pub overflow_add-scored : goal.overflow_add-scored
overflow_add-scored c =
    let few = all-few (asking_in c.args.a) _ _ c.requires.probing _ _ c.loop-c-test.true _ _ _ _ _ c.loop-c.invariant _ _ _ _ c.search_listed.ensures _ c.in_ok-kept.was in
    omega (arith, few)

pub loop-c-preserved : goal.loop-c-preserved
loop-c-preserved c = reached-more (asking_in c.args.a) _ _ c.requires.probing _ _ c.loop-c-test.true _ _ _ _ _ c.loop-c.invariant _ _ _ _ c.search_listed.ensures _ c.in_ok-kept.was

pub returns : goal.returns
returns c =
    let a = c.args in
    let e : c.loop-c.c-index ≡ length a.probed.now = omega arith in
    reached-all (asking_in a.a) _ _ c.requires.probing (lent a.rows.now a.sums.now a.table.now) _ _ _ _ _ _ (rw e at c.loop-c.invariant) c.fill.ensures (search rules)
