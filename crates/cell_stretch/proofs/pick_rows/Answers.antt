-- `pick_rows`: the visible rows passed stand at the front.
use Rattle.std.proofs.Common.{◌≡◌, arith}
use Rattle.cell_codes.specs.Codes.{row_at, visible}
use Rattle.cell_stretch.proofs.Picks.{one-if, pick-step, pick-none}
use Rattle.cell_stretch.proofs.pick_rows.Goals as goal

pub loop-i-init : goal.loop-i-init
loop-i-init c = record { few = omega arith; are = pick-none (visible c.args.z.mask.now) (row_at c.args.z) c.args.from c.args.picked.now }

pub loop-i-preserved : goal.loop-i-preserved
loop-i-preserved c =
    let a = c.args in
    let r = one-if c.from-n.result _ (visible a.z.mask.now c.row_at-m.result) c.from-n.ensures c.is_visible.ensures in record {
      few = omega (arith, r.1);
      are = pick-step (visible a.z.mask.now) (row_at a.z) a.from c.loop-i.i c.loop-i.n _ _ c.loop-i.picked (omega arith) (omega (arith, c.requires.room)) c.row_at-m.ensures r.0 c.loop-i.invariant.are;
    }

pub returns : goal.returns
returns c =
    let e : c.loop-i.i ≡ c.args.to = omega (arith, c.requires.forth) in
    record { room = omega (arith, c.requires.room); few = omega arith; are = rw e at c.loop-i.invariant.are }
