-- `ranges`: after i turns the first i places are as defined, and the others as at the start.
use borrow.Author.Rules.{rules}
use mathlib.Core.List.{[]}
use Rattle.lists.proofs.Tables.{tab-none, tab-step, tab-done}
use Rattle.pq_params.specs.Ranges.{ranges_of}
use Rattle.pq_params.proofs.ranges.Goals as goal

pub loop-i-init : goal.loop-i-init
loop-i-init c = (search rules, tab-none _ _)

pub loop-i-preserved : goal.loop-i-preserved
loop-i-preserved c = (search rules, tab-step _ _ _ _ _ [] (search rules) c.loop-i.invariant.1 c.range_at.ensures)

pub returns : goal.returns
unfolding ranges_of
returns c = tab-done _ _ _ _ _ c.loop-i.invariant.1 (search rules) (search rules) (search rules)
