use Rattle.std.proofs.Common.{rules}
use Rattle.lists.proofs.Tables.{tab-none, tab-step, tab-done}
use Rattle.recorded.proofs.layout.load.Goals as goal

pub loop-j-init : goal.loop-j-init
loop-j-init g c = (search rules, search rules, tab-none _ _)

pub loop-j-preserved : goal.loop-j-preserved
loop-j-preserved g c = (search rules, search rules, tab-step _ _ _ _ _ (g.T.Recorded.value_at c.args.s.now c.args.at 0) (search rules) c.loop-j.invariant.2 c.value_at.ensures)

pub returns : goal.returns
returns g c = tab-done _ _ _ _ _ c.loop-j.invariant.2 (search rules) (search rules) (search rules)
