use Rattle.std.proofs.Common.{rules}
use lib.Ieee.{nan}
use Rattle.lists.proofs.Tables.{tab-none, tab-step}
use Rattle.kmeans_start.proofs.start_into.Goals as goal

pub loop-j-init : goal.loop-j-init
loop-j-init c = tab-none _ _

pub loop-j-preserved : goal.loop-j-preserved
loop-j-preserved c = tab-step _ _ _ _ _ nan (search rules) c.loop-j.invariant c.shifted.ensures
