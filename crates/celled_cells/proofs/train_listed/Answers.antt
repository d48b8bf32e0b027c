-- `train_listed`: the list that is trained is the definition's.
use mathlib.Core.Path.{◌∙◌, ap}
use native.Mathlib.Omega.{arith}
use lib.ListN.{length}
use Rattle.pq_train.specs.Training.{Listed}
use Rattle.pq_train.specs.Inner.{list_outcome}
use Rattle.celled_cells.specs.CellsInner.{given_by}
use Rattle.celled_cells.proofs.Cells.{list-rows, list-cell}
use Rattle.celled_cells.proofs.train_listed.Goals as goal

pub returns : goal.returns
returns c =
    let a = c.args in
    let h = c.requires.list_held in
    list-cell (given_by a.l.now) a.c a.used c.requires.cell_lent.reached (λ z. omega (arith, h.some-listed, ap length h.list-is)) (length a.subs.now) _ _ _
    (c.train_list.ensures ∙ ap (λ (u : Listed). list_outcome u (length a.subs.now)) (list-rows h a.used))
