use Rattle.std.proofs.Common.{length, refl, ◌∙◌, arith}
use Rattle.lists.proofs.Joins.{within, grid-none, grid-step}
use Rattle.kmeans_start.proofs.start_centers.Goals as goal

pub loop-i-init : goal.loop-i-init
loop-i-init c = grid-none _ _ _

pub start_center-requires : goal.start_center-requires
start_center-requires c =
    let s = c.args in
    omega (arith, within c.loop-i.i s.n (length s.mean.now) c.loop-i-test.true)

pub loop-i-preserved : goal.loop-i-preserved
loop-i-preserved c = c.start_center.ensures ∙ grid-step _ _ _ _ _ _ c.loop-i.invariant refl
