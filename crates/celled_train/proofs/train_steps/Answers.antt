-- `train_steps`: the coarse stage, the cells, the codes; the first refusal ends it.
use Rattle.std.proofs.lemmas.Result.{err_from_is_err_and}
use Rattle.answers.specs.declared.Stage.TheVariants.{Coarse}
use Rattle.pq_train.proofs.Laws.{staged-done}
use Rattle.celled_cells.specs.CellsInner.{given_by}
use Rattle.celled_train.proofs.Steps.{coarse-refused, cells-held, steps-done}
use Rattle.celled_train.proofs.train_steps.Goals as goal

pub returns-in_err-start : goal.returns-in_err-start
returns-in_err-start c =
    let p = err_from_is_err_and c.from_residual.result c.from_residual.ensures.1 in
    rw (p.1, p.2) (coarse-refused (given_by c.args.l.now) _ _ _ c.make_cells-c.ensures.said c.in_err-start.ensures)

pub returns : goal.returns
returns c =
    let h = cells-held c.requires.held (c.make_cells-c.ensures.made _ (staged-done Coarse _ _ c.in_ok-start.ensures)) in
    steps-done h _ _ _ _ c.in_ok-used.was c.train_cells.ensures c.fill_codes.ensures
