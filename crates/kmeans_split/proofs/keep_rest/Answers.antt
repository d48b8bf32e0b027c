use Rattle.std.proofs.Common.{◌∙◌, rules}
use lib.Ieee.{nan}
use Rattle.lists.proofs.Tables.{tab-none, tab-step, tab-rest}
use Rattle.kmeans_split.proofs.keep_rest.Goals as goal

pub loop-j-init : goal.loop-j-init
loop-j-init c = tab-none _ _

pub loop-j-preserved : goal.loop-j-preserved
loop-j-preserved c =
    let i = c.loop-j.invariant in
    tab-step _ _ _ _ _ nan (search rules) i (c.up_down.ensures ∙ rw (tab-rest _ _ _ _ nan i))
