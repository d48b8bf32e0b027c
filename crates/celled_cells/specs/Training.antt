-- Celled training: coarse k-means, then lists, then cells rising and in each the sub-spaces rising, draws running through all.
use Rattle.std.specs.Prelude.{ℕ, zero, suc, List, Ok, cond, get_or, length, eqb, Float}
use Rattle.lists.specs.Lists.{fill}
use Rattle.metrics.specs.Distance.{zero32}
use Rattle.answers.specs.declared.Stage.TheVariants.{Coarse}
use Rattle.answers.specs.Answers.{Trained, staged, go_on, draws_used}
use Rattle.pq_params.specs.declared.CelledShape.{CelledShape}
use Rattle.pq_params.specs.Lengths.{subs_long}
use Rattle.kmeans_assign.specs.Task.{Task}
use Rattle.kmeans.specs.Kmeans.{train}
use Rattle.pq_train.specs.Training.{Listed, row_at, answer_of, sub_centers, code_of}
use Rattle.celled_lists.specs.Cells.{cell_list}
use Rattle.celled_fill.specs.Fill.{cell_at, less_center}

-- what the steps go over: the index's numbers, epochs, rows and draws
pub record Given : Type 0 where
  pub shape : CelledShape
  pub epochs : ℕ
  pub n : ℕ
  pub rows : List Float
  pub draws : List Float

-- row m at the D coordinates
abbrev pub row_of : Given → ℕ → ℕ → Float
row_of i = row_at i.rows i.shape.plain.d

-- Coarse k-means over 0..D without residual.
abbrev pub coarse_task : Given → Task
coarse_task i = record {
  value = row_of i;
  n = i.n;
  w = i.shape.plain.d;
  centers = i.shape.cells;
  epochs = i.epochs;
  draws = i.draws;
}

abbrev pub coarse_answer : Given → Trained
coarse_answer i = staged Coarse (train (coarse_task i) 0).answer

abbrev pub coarse_centers : Given → List Float
coarse_centers i = (train (coarse_task i) 0).centers

-- then lists: each row in its cell, numbers rising
abbrev pub cell_of : Given → ℕ → ℕ
cell_of i = cell_at i.shape (coarse_centers i) i.rows

abbrev pub list_of : Given → ℕ → List ℕ
list_of i = cell_list (cell_of i) i.n

-- row m with the centre of cell c as residual
abbrev pub residual_at : Given → ℕ → ℕ → ℕ → Float
residual_at i c m = less_center i.shape.plain.d (coarse_centers i) c (row_of i m)

-- k-means over the cell's rows, `used` draws having been used before
abbrev pub cell_rows : Given → ℕ → ℕ → Listed
cell_rows i c used = record {
  shape = i.shape.plain;
  epochs = i.epochs;
  draws = i.draws;
  cell = c;
  n = length (list_of i c);
  value = λ (k : ℕ). residual_at i c (get_or (list_of i c) k 0);
  used = used;
}

-- An empty cell uses no draws.
abbrev pub cell_answer : Given → ℕ → ℕ → Trained
cell_answer i c used =
    let trained = answer_of (cell_rows i c used) in
    cond (eqb (length (list_of i c)) 0) (Ok used) trained

-- the answer after the coarse k-means and the cells below c
unfoldable pub reached_cell : Given → ℕ → Trained
reached_cell i zero = coarse_answer i
reached_cell i (suc c) = go_on (reached_cell i c) (cell_answer i c)

-- cell c as it is trained, with the draws that the cells before it left
abbrev pub trained_cell : Given → ℕ → Listed
trained_cell i c = cell_rows i c (draws_used (reached_cell i c))

-- An empty cell has zero sub-centres.
unfoldable pub cell_centers : Given → ℕ → List Float
cell_centers i c =
    let trained = sub_centers (trained_cell i c) in
    cond (eqb (length (list_of i c)) 0) (fill zero32 (subs_long i.shape.plain)) trained

-- the code of row m in sub-space s, against the sub-centres of its cell
unfoldable pub celled_code : Given → ℕ → ℕ → ℕ
celled_code i m s = code_of (trained_cell i (cell_of i m)) (residual_at i (cell_of i m) m) s
