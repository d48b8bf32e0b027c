use borrow.Author.Rules.{rules}
use mathlib.Core.Path.{refl}
use Rattle.lists.proofs.Tables.{tab-none, tab-step, tab-done}
use Rattle.lists.proofs.fill.Goals as goal

pub loop-i-init : goal.loop-i-init
loop-i-init g c = tab-none _ _

pub loop-i-preserved : goal.loop-i-preserved
loop-i-preserved g c = tab-step _ _ _ _ _ c.args.v (search rules) c.loop-i.invariant refl

pub returns : goal.returns
returns g c = tab-done _ _ _ _ _ c.loop-i.invariant (search rules) (search rules) (search rules)
