-- What the work of a plain search counts on, its input having passed the tests.
use Rattle.std.specs.Prelude.{◌≡◌, length}
use Rattle.cell_table.specs.declared.CellView.{CellView}
use Rattle.cell_table.specs.TablesInner.{Tabling}
use Rattle.cell_codes.specs.CodesInner.{Rows}
use Rattle.cell_walk.specs.Results.{Lent, asked_of}

-- the rows are there, a table may be worked, and the results are equally long
pub record Ready (z : CellView) (l : Lent) : Type 0 where
  pub table_of : Tabling z l.table
  pub rows-of : Rows z
  pub even : length l.sums ≡ asked_of l
