-- `walk_cell`: the results stay, or become blank and the table zero.
use Rattle.std.proofs.Common.{sym, ◌∙◌, rules}
use Rattle.cell_walk.proofs.Walks.{scanned-done, scanned-refused}
use Rattle.cell_walk.proofs.walk_cell.Goals as goal

pub returns-then-is_err : goal.returns-then-is_err
returns-then-is_err c =
    scanned-refused _ _ _ _ _ _ _ _ _ _ c.walk_rows-answer.ensures _ _ _ _ (sym c.is_err.ensures.value ∙ c.if-is_err.true) (search rules) c.blank.ensures c.fill.ensures

pub returns-else-is_err : goal.returns-else-is_err
returns-else-is_err c = scanned-done _ _ _ _ _ _ _ _ _ _ c.walk_rows-answer.ensures _ (sym c.is_err.ensures.value ∙ c.if-is_err.false)
