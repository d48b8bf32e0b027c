use Rattle.std.proofs.Common.{◌≡◌, Ok}
use Rattle.kmeans.specs.Kmeans.{epochs_to}
use Rattle.kmeans_assign.specs.Task.{task_given}
use Rattle.kmeans_split.specs.Run.{run_of}
use Rattle.kmeans.proofs.run_epochs.Given as goal

abbrev pub invariant-loop-e : goal.invariant-loop-e
invariant-loop-e l = run_of (Ok l.at) l.centers l.assigned l.counts ≡ epochs_to (task_given l.g l.epochs l.draws) l.used l.e
