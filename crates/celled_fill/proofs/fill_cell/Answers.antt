-- `fill_cell`: the slices of cell c are its list, its centre and its sub-centres.
use mathlib.Core.Path.{refl, ◌∙◌}
use borrow.Author.Rules.{rules}
use Rattle.celled_fill.proofs.CellSlices.{list_inside, list-given, subs-held, listed, cell-coded}
use Rattle.celled_fill.proofs.fill_cell.Goals as goal

pub cell_list-list-requires : goal.cell_list-list-requires
cell_list-list-requires c = list_inside c.requires.0 c.args.c c.requires.1

pub stretch-own-requires : goal.stretch-own-requires
stretch-own-requires c = rw c.subs_long.ensures (subs-held c.requires.0 c.args.c c.requires.1)

pub fill_listed-requires : goal.fill_listed-requires
fill_listed-requires c =
    let list = list-given c.requires.0 c.args.c c.requires.1 _ c.cell_list-list.ensures in
    listed c.requires.0 c.args.c c.requires.1 _ _ _ refl refl (search (rules, c.stretch-center.ensures.long)) list (c.stretch-own.ensures.long ∙ c.subs_long.ensures)

pub returns : goal.returns
returns c =
    let list = list-given c.requires.0 c.args.c c.requires.1 _ c.cell_list-list.ensures in
    cell-coded c.requires.0 c.args.c c.requires.1 _ _ _ _ _ list c.stretch-center.ensures.is c.stretch-own.ensures.is c.subs_long.ensures
    c.fill_listed.ensures
