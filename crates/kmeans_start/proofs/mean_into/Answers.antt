use Rattle.std.proofs.Common.{ap, ◌∙◌, rules}
use lib.Ieee.{nan}
use Rattle.lists.proofs.Tables.{tab-none, tab-step, tab-rest}
use Rattle.kmeans_start.specs.Start.{mean_of}
use Rattle.kmeans_start.proofs.mean_into.Goals as goal

pub loop-sum-init : goal.loop-sum-init
loop-sum-init c = tab-none _ _

pub loop-sum-preserved : goal.loop-sum-preserved
loop-sum-preserved c =
    let i = c.loop-sum.invariant in
    tab-step _ _ _ _ _ nan (search rules) i (c.mean.ensures ∙ ap (mean_of _) (tab-rest _ _ _ _ nan i))
