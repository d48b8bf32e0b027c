use Rattle.std.proofs.Common.{ap₂, rules}
use lib.Ieee.{nan, binary32, add}
use Rattle.lists.proofs.Tables.{tab-none, tab-step, tab-rest}
use Rattle.kmeans_start.proofs.add_into.Goals as goal

pub loop-j-init : goal.loop-j-init
loop-j-init c = tab-none _ _

pub loop-j-preserved : goal.loop-j-preserved
loop-j-preserved c =
    let i = c.loop-j.invariant in
    tab-step _ _ _ _ _ nan (search rules) i (ap₂ (add binary32) (tab-rest _ _ _ _ nan i) (rw c.residual_at.ensures at c.value.ensures))
