-- `search_listed`: the cell that is searched is the definition's.
use Rattle.probed_cells.proofs.ProbedCells.{cell-outcome, cell-searched}
use Rattle.probed_cells.proofs.search_listed.Goals as goal

pub search_cell-requires-clause-searching : goal.search_cell-requires-clause-searching
search_cell-requires-clause-searching c =
    rw c.cell-z.ensures (cell-searched c.args.a c.args.c c.list-list.result c.list-list.ensures.is c.stretch-center.result c.stretch-center.ensures _ c.requires.walking)

pub returns : goal.returns
returns c =
    cell-outcome c.args.a c.args.c c.list-list.result c.list-list.ensures.is c.stretch-center.result c.stretch-center.ensures _ c.requires.walking _ _ _ (rw c.cell-z.ensures at c.search_cell.ensures)
