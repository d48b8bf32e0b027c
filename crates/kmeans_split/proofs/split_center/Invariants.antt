use Rattle.std.proofs.Common.{◌≡◌, List, ℕ, Ok}
use Rattle.kmeans_split.specs.Split.{split_to, split_task}
use Rattle.kmeans_split.specs.Run.{run_with}
use Rattle.kmeans_split.proofs.split_center.Given as goal

abbrev pub invariant-loop-i : goal.invariant-loop-i
invariant-loop-i l = (to : List ℕ) → run_with (Ok l.at) l.centers l.counts to ≡ split_to (split_task l.f l.draws) l.epoch (run_with (Ok l.used) l.initial.centers l.initial.counts to) l.i
