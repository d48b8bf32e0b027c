use Rattle.lending.specs.Listed.{bits_of}
use mathlib.Core.Path.{sym, ◌∙◌}
use Rattle.lending.proofs.Laws.{no_nan}
use Rattle.lending.proofs.listed.bits.Goals as goal

pub float_to_bits-result : goal.float_to_bits-result
float_to_bits-result c = no_nan _ (sym c.is_finite.ensures ∙ c.if-is_finite.true)

pub returns-then-is_finite : goal.returns-then-is_finite
unfolding bits_of
returns-then-is_finite c = rw (sym c.is_finite.ensures ∙ c.if-is_finite.true)

pub returns-else-is_finite : goal.returns-else-is_finite
unfolding bits_of
returns-else-is_finite c = rw (sym c.is_finite.ensures ∙ c.if-is_finite.false)
