-- Training of one list of rows: the sub-spaces rising, draws running through.
use Rattle.std.specs.Prelude.{ℕ, zero, suc, ◌+◌, ◌*◌, List, Ok, get_or, Float}
use Rattle.std.specs.Float.{nan}
use Rattle.lists.specs.Lists.{join}
use Rattle.pq_params.specs.Bounds.{centers_of}
use Rattle.pq_params.specs.declared.Shape.{Shape}
use Rattle.pq_params.specs.Ranges.{width_of, on_range}
use Rattle.kmeans_assign.specs.Task.{Task}
use Rattle.kmeans.specs.Kmeans.{train}
use Rattle.kmeans_assign.specs.Assign.{chosen}
use Rattle.answers.specs.declared.Stage.TheVariants.{Sub}
use Rattle.answers.specs.Answers.{Trained, staged, go_on, draws_used}

-- one list of rows to train: the list of a cell, or all rows (plain: cell 0)
pub record Listed : Type 0 where
  pub shape : Shape
  pub epochs : ℕ
  pub draws : List Float
  pub cell : ℕ
  -- how many rows, and the value of the k-th of them at coordinate j of D
  pub n : ℕ
  pub value : ℕ → ℕ → Float
  -- the draws used before
  pub used : ℕ

abbrev pub value_on_range : Listed → ℕ → ℕ → ℕ → Float
value_on_range l s k = on_range l.shape.d l.shape.nsub s (l.value k)

-- the k-means of sub-space s
abbrev pub task_of : Listed → ℕ → Task
task_of l s = record {
  value = value_on_range l s;
  n = l.n;
  w = width_of l.shape.d l.shape.nsub s;
  centers = centers_of l.shape.bits;
  epochs = l.epochs;
  draws = l.draws;
}

-- the answer after the sub-spaces below s
unfoldable pub reached : Listed → ℕ → Trained
reached l zero = Ok l.used
reached l (suc s) = go_on (reached l s) (λ (used : ℕ). staged (Sub l.cell s) (train (task_of l s) used).answer)

-- the centres of sub-space s, which begins with the draws that those before it left
abbrev pub centers_at : Listed → ℕ → List Float
centers_at l s = (train (task_of l s) (draws_used (reached l s))).centers

abbrev pub answer_of : Listed → Trained
answer_of l = reached l l.shape.nsub

-- Order: sub-space, centre, coordinate.
unfoldable pub sub_centers : Listed → List Float
sub_centers l = join (centers_at l) l.shape.nsub

-- 6. assign once more: the code, in sub-space s, of a row with the values x at the D coordinates
abbrev pub code_of : Listed → (ℕ → Float) → ℕ → ℕ
code_of l x s =
    chosen (on_range l.shape.d l.shape.nsub s x) (centers_at l s) (width_of l.shape.d l.shape.nsub s)
    (centers_of l.shape.bits)

-- row m of rows that are d wide, at coordinate j
abbrev pub row_at : List Float → ℕ → ℕ → ℕ → Float
row_at rows d m j = get_or rows (m * d + j) nan
