use Rattle.std.proofs.Common.{◌≡◌, ℕ, ◌<◌, false}
use Rattle.kmeans_split.specs.Split.{walk_at, taken_at, split_task}
use Rattle.kmeans_split.proofs.steps.Given as goal

abbrev pub invariant-loop-s : goal.invariant-loop-s
invariant-loop-s l = record {
  at-walk : l.a ≡ walk_at (split_task l.f l.draws) l.i l.s;
  none : (q : ℕ) → q < l.s → taken_at (split_task l.f l.draws) l.counts l.used l.i q ≡ false;
}
