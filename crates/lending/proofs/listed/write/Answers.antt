use Rattle.std.proofs.Common.{rules}
use Rattle.lists.proofs.Tables.{tab-none, tab-step, tab-done}
use Rattle.lending.proofs.listed.write.Goals as goal

pub loop-j-init : goal.loop-j-init
loop-j-init g c = (search rules, search rules, tab-none _ _)

pub loop-j-preserved : goal.loop-j-preserved
loop-j-preserved g c = (search rules, search rules, tab-step _ _ _ _ _ c.args.rest (search rules) c.loop-j.invariant.2 c.value_in.ensures)

pub returns : goal.returns
returns g c = tab-done _ _ _ _ _ c.loop-j.invariant.2 (search rules) (search rules) (search rules)
