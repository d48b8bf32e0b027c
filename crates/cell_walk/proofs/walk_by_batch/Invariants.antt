use Rattle.std.proofs.Common.{◌≡◌, ◌-◌, ◌≤◌, true, length}
use Rattle.neighbor.specs.Gathered.{batch_of, runs}
use Rattle.offers.specs.OffersInner.{offered_all}
use Rattle.cell_codes.specs.Codes.{row_at, visible}
use Rattle.cell_stretch.specs.StretchInner.{sums_of}
use Rattle.cell_walk.specs.WalkInner.{finite_to, candidates_to}
use Rattle.cell_walk.proofs.walk_by_batch.Given as goal

abbrev pub invariant-loop-from : goal.invariant-loop-from
invariant-loop-from l = record {
  within : l.from ≤ l.z.n;
  finite : finite_to (sums_of l.z l.centers l.table) (visible l.z.mask.now) (row_at l.z) l.from ≡ true;
  offered : runs l.rows l.sums l.holds (batch_of l.batch l.waiting) ≡ offered_all (runs l.initial.rows l.initial.sums l.found (batch_of l.initial.batch 0)) (candidates_to (sums_of l.z l.centers l.table) (visible l.z.mask.now) (row_at l.z) l.from);
  counted : l.scored ≡ length (candidates_to (sums_of l.z l.centers l.table) (visible l.z.mask.now) (row_at l.z) l.from);
}

abbrev pub decreases-loop-from : goal.decreases-loop-from
decreases-loop-from l = l.z.n - l.from
