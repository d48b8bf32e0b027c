use Rattle.std.proofs.Common.{◌∙◌}
use Rattle.lists.proofs.Joins.{grid-none, grid-step}
use Rattle.kmeans_average.proofs.Averaging.{means-stretch}
use Rattle.kmeans_average.proofs.mean_centers.Goals as goal

pub loop-i-init : goal.loop-i-init
loop-i-init c = grid-none _ _ _

pub loop-i-preserved : goal.loop-i-preserved
loop-i-preserved c =
    let s = c.args in
    let i = c.loop-i in
    c.mean_center.ensures ∙ grid-step _ _ _ _ _ _ i.invariant (means-stretch s.centers.now s.counts.now s.w i.i i.centers i.invariant)
