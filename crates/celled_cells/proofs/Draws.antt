-- No more draws are used than lent.
use Prim.Native.Nat.{ℕ, zero, suc, ◌≤◌}
use mathlib.Core.Path.{◌≡◌, subst}
use mathlib.Core.Bool.{Bool, true, false, cond}
use native.Mathlib.Omega.{arith}
use lib.ListN.{length}
use lib.Dec.{eqb}
use Rattle.std.specs.Prelude.{Ok, Err}
use Rattle.answers.specs.declared.Stage.{Stage}
use Rattle.answers.specs.declared.Stage.TheVariants.{Coarse, Sub}
use Rattle.answers.specs.Answers.{Clustered, Trained, staged, go_on}
use Rattle.kmeans_split.specs.SplitFacts.{Drawn}
use Rattle.kmeans.specs.Kmeans.{train}
use Rattle.kmeans.proofs.Reached.{train-drawn}
use Rattle.pq_train.specs.Training.{Listed, task_of, reached, answer_of}
use Rattle.celled_cells.specs.Training.{Given, coarse_task, list_of, cell_rows, cell_answer, reached_cell}

abbrev Within : ℕ → Trained → Type 0
Within n (Ok used) = used ≤ n
Within n (Err u) = Unit {0}

within-staged : (stage : Stage) (used n : ℕ) (c : Clustered) → Drawn used n c → Within n (staged stage c)
within-staged stage used n (Ok u) d = d.1
within-staged stage used n (Err why) d = tt

reached-within : (u : Listed) (s : ℕ) → u.used ≤ length u.draws → Within (length u.draws) (reached u s)
unfolding reached
reached-within u zero k = k
reached-within u (suc s) k = go (reached u s) (reached-within u s k)
  where
    go : (t : Trained) → Within (length u.draws) t → Within (length u.draws) (go_on t (λ (used : ℕ). staged (Sub u.cell s) (train (task_of u s) used).answer))
    go (Ok used) q = within-staged (Sub u.cell s) used (length u.draws) (train (task_of u s) used).answer (train-drawn (task_of u s) used q)
    go (Err u) q = tt

cells-within : (i : Given) (c : ℕ) → Within (length i.draws) (reached_cell i c)
unfolding reached_cell
cells-within i zero = within-staged Coarse 0 (length i.draws) (train (coarse_task i) 0).answer (train-drawn (coarse_task i) 0 (omega arith))
cells-within i (suc c) = go (reached_cell i c) (cells-within i c)
  where
    one : (b : Bool) (used : ℕ) → used ≤ length i.draws → Within (length i.draws) (cond b (Ok used) (answer_of (cell_rows i c used)))
    one true used q = q
    one false used q = reached-within (cell_rows i c used) i.shape.plain.nsub q

    go : (t : Trained) → Within (length i.draws) t → Within (length i.draws) (go_on t (cell_answer i c))
    go (Ok used) q = one (eqb (length (list_of i c)) 0) used q
    go (Err u) q = tt

pub cells-drawn : (i : Given) (c used : ℕ) → reached_cell i c ≡ Ok used → used ≤ length i.draws
cells-drawn i c used e = subst (Within (length i.draws)) e (cells-within i c)
