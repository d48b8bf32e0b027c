use mathlib.Core.Path.{sym, ◌∙◌}
use Rattle.metrics.proofs.Laws.{worked-finite, worked_not}
use Rattle.metrics.proofs.mark.Goals as goal

pub returns-then-is_finite : goal.returns-then-is_finite
returns-then-is_finite c = worked-finite c.args.sum (sym c.is_finite.ensures ∙ c.if-is_finite.true)

pub returns-else-is_finite : goal.returns-else-is_finite
returns-else-is_finite c = worked_not c.args.sum (sym c.is_finite.ensures ∙ c.if-is_finite.false)
