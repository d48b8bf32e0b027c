-- `ranges_used`: none in refusal 1, else n_sub.
use mathlib.Core.Path.{sym, ◌∙◌}
use Rattle.pq_params.proofs.ranges_used.Goals as goal

pub returns-then-bad_range : goal.returns-then-bad_range
returns-then-bad_range c = rw (sym c.bad_range.ensures ∙ c.if-bad_range.true)

pub returns-else-bad_range : goal.returns-else-bad_range
returns-else-bad_range c = rw (sym c.bad_range.ensures ∙ c.if-bad_range.false)
