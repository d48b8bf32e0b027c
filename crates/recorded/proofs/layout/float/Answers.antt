use lib.Ieee.{nan_bits}
use borrow.Author.Tests.{ne_eqb}
use Rattle.recorded.proofs.Laws.{other-exponent}
use Rattle.recorded.proofs.layout.float.Goals as goal

pub float_from_bits-result : goal.float_from_bits-result
unfolding nan_bits
float_from_bits-result c = other-exponent _ _ (ne_eqb _ _ c.if-bits-eq255.false)
