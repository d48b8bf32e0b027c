-- `assign_cells`: k-means' step 3 over all rows gives each its cell.
use mathlib.Core.Path.{◌∙◌}
use Rattle.celled_fill.proofs.Coarse.{coarse-assigned}
use Rattle.celled_fill.proofs.assign_cells.Goals as goal

pub returns : goal.returns
returns c = let a = c.args in rw c.coarse_frame.ensures at c.search_data.ensures ∙ coarse-assigned a.s a.n a.rows.now a.coarse.now
