-- The coarse stage: its k-means is document 01's, over rows that it may go over.
use Prim.Native.Nat.{ℕ}
use mathlib.Core.Path.{◌≡◌, ap, fun_ext}
use lib.Ieee.{Float}
use Rattle.std.specs.Prelude.{None}
use Rattle.kmeans_assign.specs.Task.{Task, task_of}
use Rattle.celled_fill.specs.FillInner.{coarse_frame}
use Rattle.celled_fill.proofs.Coarse.{coarse-value}
use Rattle.celled_cells.specs.Training.{Given, coarse_task}

-- the coarse k-means' task is the definition's
abbrev with_value : Task → (ℕ → ℕ → Float) → Task
with_value t v = record { value = v; n = t.n; w = t.w; centers = t.centers; epochs = t.epochs; draws = t.draws }

pub coarse-task : (i : Given) → task_of (coarse_frame i.shape i.n) i.rows None None i.epochs i.draws ≡ coarse_task i
coarse-task i = ap (with_value (coarse_task i)) (fun_ext (λ k. fun_ext (λ j. coarse-value i.shape i.n i.rows k j)))
