use Rattle.std.proofs.Common.{◌≡◌, arith}
use Rattle.lists.specs.Lists.{tab}
use Rattle.lists.proofs.Parts.{put-none}
use Rattle.kmeans_split.proofs.Coordinates.{give-step}
use Rattle.kmeans_split.proofs.give.Goals as goal

pub loop-j-init : goal.loop-j-init
unfolding tab
loop-j-init c = put-none _ _

pub loop-j-preserved : goal.loop-j-preserved
loop-j-preserved c =
    let a = c.args in
    let i = c.loop-j in
    give-step a.centers.now i.centers a.w a.i a.a i.j _ c.requires.0 c.requires.1 c.requires.2 c.loop-j-test.true i.invariant c.down_up.ensures

pub returns : goal.returns
returns c =
    let e : c.loop-j.j ≡ c.args.w = omega arith in
    rw e at c.loop-j.invariant
