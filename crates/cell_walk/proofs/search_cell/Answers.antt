-- `search_cell`: each end is that of the definition.
use Rattle.std.proofs.Common.{sym, ◌∙◌, arith}
use borrow.Author.Tests.{not-true, not-false}
use Rattle.cell_codes.specs.Codes.{cell_of}
use Rattle.cell_walk.proofs.OneCell.{ready, candidates-here, sums-here, cell_hidden, cell-broken, cell-walked, table-broken, table-why, table-zero, table-finite, table-stands, table-as-long}
use Rattle.cell_walk.proofs.search_cell.Goals as goal

pub returns-then-not-any_visible : goal.returns-then-not-any_visible
returns-then-not-any_visible c =
    cell_hidden (cell_of c.args.z) _ _ _ _ c.requires.held (not-false _ (sym c.any_visible.ensures ∙ c.if-not-any_visible.true))

pub returns-in-Err : goal.returns-in-Err
returns-in-Err c =
    let here = cell_of c.args.z in
    let T = c.in-Err.ensures in
    cell-broken here c.args.rows.now c.args.sums.now _ c.args.table.now _ _ _ (not-true _ (sym c.any_visible.ensures ∙ c.if-not-any_visible.false))
    _ (table-why here c.args.table.now _ _ T) (table-broken here c.args.table.now _ _ T) c.blank.ensures.rows-blank c.blank.ensures.sums-blank
    (table-zero here c.args.table.now _ _ T c.requires.searching.table_of.table-long)

pub walk_cell-requires : goal.walk_cell-requires
walk_cell-requires c =
    (ready c.args.z _ c.centers-centers.ensures _ c.requires.searching.rows-of c.requires.searching.sound (omega (arith, c.requires.searching.table_of.table-long)), c.requires.held)

pub returns : goal.returns
returns c =
    let z = c.args.z in
    let here = cell_of z in
    let T = c.in_default.ensures in
    let M = table-stands here c.args.table.now _ T in
    cell-walked here c.args.rows.now c.args.sums.now _ c.args.table.now _ _ _ (not-true _ (sym c.any_visible.ensures ∙ c.if-not-any_visible.false))
    _ _ _ _ _ (table-finite here c.args.table.now _ T) M (table-as-long here c.args.table.now _ T c.requires.searching.table_of.table-long)
    (sums-here z _ c.centers-centers.ensures c.requires.searching.sound _ M)
    (candidates-here z _ c.centers-centers.ensures c.requires.searching.sound _ M)
    c.walk_cell.ensures
