-- `train_cell`: an empty cell is zero, and any other is trained from its list.
use borrow.Author.Rules.{rules}
use Prim.Native.Nat.{◌-◌, ◌*◌, ◌≤◌}
use mathlib.Core.Path.{sym, ◌∙◌, ap}
use native.Mathlib.Omega.{arith}
use borrow.Author.Tests.{eqb-true, eqb-false}
use lib.ListN.{length, drop, length-drop}
use lib.Seq.{take_all}
use Rattle.lists.specs.Lists.{fill}
use Rattle.metrics.specs.Distance.{zero32}
use Rattle.celled_cells.specs.CellsInner.{given_by}
use Rattle.celled_cells.proofs.Cells.{list_inside, list-given, center-within, list_held, empty-cell}
use Rattle.celled_cells.proofs.train_cell.Goals as goal

pub cell_list-list-requires : goal.cell_list-list-requires
cell_list-list-requires c = list_inside c.requires.cells_held c.args.c c.requires.cell_lent.below

pub returns-then-is_empty : goal.returns-then-is_empty
returns-then-is_empty c =
    let a = c.args in
    let list = list-given c.requires.cells_held a.c c.requires.cell_lent.below _ c.cell_list-list.ensures in
    let z = eqb-true (length c.cell_list-list.result.now) 0 (sym c.is_empty.ensures ∙ c.if-is_empty.true) in
    empty-cell (given_by a.l.now) a.c a.used _ c.requires.cell_lent.reached (ap length (sym list) ∙ z) (c.fill.ensures ∙ ap (fill zero32) c.requires.cell_lent.subs-long)

pub slice_bounds-train_listed-count : goal.slice_bounds-train_listed-count
slice_bounds-train_listed-count c = omega (arith, center-within c.requires.cells_held c.args.c c.requires.cell_lent.below)

pub slice_bounds-train_listed-start : goal.slice_bounds-train_listed-start
slice_bounds-train_listed-start c =
    let k : c.args.c * c.args.l.now.shape.plain.d ≤ length c.args.x.now.coarse.now = omega (arith, center-within c.requires.cells_held c.args.c c.requires.cell_lent.below) in
    search rules

pub train_listed-requires-clause-list_held : goal.train_listed-requires-clause-list_held
train_listed-requires-clause-list_held c =
    let a = c.args in
    let at = a.c * a.l.now.shape.plain.d in
    let coarse = a.x.now.coarse.now in
    let list = list-given c.requires.cells_held a.c c.requires.cell_lent.below _ c.cell_list-list.ensures in
    rw (take_all (length coarse - at) (drop at coarse) (omega (arith, length-drop at coarse)))
    (list_held c.requires.cells_held a.c c.requires.cell_lent.below _ list (eqb-false (length c.cell_list-list.result.now) 0 (sym c.is_empty.ensures ∙ c.if-is_empty.false)))
