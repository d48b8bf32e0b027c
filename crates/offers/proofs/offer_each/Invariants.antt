use lib.ListN.{length, take}
use mathlib.Core.Path.{◌≡◌}
use Rattle.neighbor.specs.Gathered.{batch_of, runs}
use Rattle.offers.specs.OffersInner.{offered_all}
use Rattle.offers.proofs.offer_each.Given as goal

abbrev pub invariant-loop-c : goal.invariant-loop-c
invariant-loop-c l = record {
  rows_long : length l.rows ≡ length l.initial.rows;
  sums_long : length l.sums ≡ length l.initial.sums;
  offered : runs l.rows l.sums l.counts.found (batch_of l.batch l.counts.waiting) ≡ offered_all (runs l.initial.rows l.initial.sums l.found (batch_of l.initial.batch l.waiting)) (take l.c-index l.picked);
}
