use Rattle.std.proofs.Common.{◌≡◌, ◌≤◌, ◌++◌, length, drop, Ok}
use Rattle.lists.specs.Lists.{join}
use Rattle.pq_train.specs.Training.{reached, centers_at}
use Rattle.pq_train.specs.Inner.{listed_of, stretch_at}
use Rattle.pq_train.proofs.train_center.Given as goal

abbrev pub invariant-loop-s : goal.invariant-loop-s
invariant-loop-s l = record {
  drawn : l.used ≤ length l.draws;
  so-far : reached (listed_of l.l l.draws l.start) l.s ≡ Ok l.used;
  made : l.subs ≡ join (centers_at (listed_of l.l l.draws l.start)) l.s ++ drop (stretch_at l.l.shape l.s) l.initial.subs;
}
