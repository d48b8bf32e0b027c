-- What training makes is a filling against the centres that it made: the sub-centres of a cell among all of them, and the codes.
use Prim.Native.Nat.{ℕ, ◌*◌, ◌<◌}
use mathlib.Core.Path.{◌≡◌, refl}
use native.Mathlib.Omega.{arith}
use borrow.Author.Tests.{ne_eqb}
use lib.ListN.{length}
use Rattle.lists.specs.Lists.{join, grid}
use Rattle.lists.proofs.Joins.{part_join, length-join, grid-ext}
use Rattle.pq_params.specs.Lengths.{subs_long}
use Rattle.pq_train.specs.Training.{sub_centers}
use Rattle.pq_train.proofs.Laws.{centers-part}
use Rattle.celled_lists.proofs.CellLists.{in_cell}
use Rattle.celled_fill.specs.Fill.{cell_subs, code_of as filled_by, filled_codes}
use Rattle.celled_cells.specs.Training.{Given, row_of, coarse_centers, cell_of, list_of, trained_cell, cell_centers, celled_code}
use Rattle.celled_cells.proofs.Cells.{centers-long, centers-evenly}

module _ (i : Given) where
  -- all sub-centres: how long they are, and those of cell c
  pub subs-long : length (join (cell_centers i) i.shape.cells) ≡ i.shape.cells * subs_long i.shape.plain
  subs-long = length-join (cell_centers i) _ (centers-evenly i (subs_long i.shape.plain) refl) i.shape.cells

  cell-subs : (c : ℕ) → c < i.shape.cells → cell_subs i.shape.plain (join (cell_centers i) i.shape.cells) c ≡ cell_centers i c
  cell-subs c k =
      let w = subs_long i.shape.plain in
      rw (centers-long i c) at (part_join (cell_centers i) (λ (c : ℕ). c * w) (centers-evenly i w refl) i.shape.cells c k)

  -- a cell that holds a row has the sub-centres of its training
  centers-trained : (c : ℕ) → 0 < length (list_of i c) → cell_centers i c ≡ sub_centers (trained_cell i c)
  unfolding cell_centers
  centers-trained c k = rw (ne_eqb (length (list_of i c)) 0 (omega arith))

  -- so the code of row m by its training is that by the finished centres
  code-tied : (celled : (m : ℕ) → m < i.n → cell_of i m < i.shape.cells) (m s : ℕ) → m < i.n → s < i.shape.plain.nsub
      → filled_by i.shape (coarse_centers i) (join (cell_centers i) i.shape.cells) (row_of i m) s ≡ celled_code i m s
  unfolding filled_by celled_code
  code-tied celled m s k below =
      let c = cell_of i m in
      rw (cell-subs c (celled m k), centers-trained c (omega (arith, (in_cell (cell_of i) i.n m k).0)), centers-part (trained_cell i c) s below)

  pub codes-tied : (celled : (m : ℕ) → m < i.n → cell_of i m < i.shape.cells)
      → filled_codes i.shape (coarse_centers i) (join (cell_centers i) i.shape.cells) i.rows i.n ≡ grid (celled_code i) i.n i.shape.plain.nsub
  codes-tied celled = grid-ext _ (celled_code i) i.n i.shape.plain.nsub (λ m k s below. code-tied celled m s k below)
