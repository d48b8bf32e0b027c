use Rattle.std.proofs.Common.{◌≡◌, ◌+◌, ◌≤◌, take, map}
use Rattle.neighbor.specs.Neighbor.{row_of}
use Rattle.cell_codes.specs.Codes.{row_at, visible}
use Rattle.cell_stretch.specs.StretchInner.{stretch_of}
use Rattle.cell_stretch.proofs.pick_rows.Given as goal

abbrev pub invariant-loop-i : goal.invariant-loop-i
invariant-loop-i l = record {
  few : l.n + l.from ≤ l.i;
  are : stretch_of (visible l.z.mask.now) (row_at l.z) l.from l.i ≡ take l.n (map row_of l.picked);
}
