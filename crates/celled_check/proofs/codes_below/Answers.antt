-- `codes_below`: every code passed is below K.
use native.Mathlib.Omega.{arith}
use native.Mathlib.Numerals.{add-one}
use Rattle.lists.proofs.Walks.{every-none, every_more, every-done}
use Rattle.celled_lists.specs.Lists.{is_below}
use Rattle.celled_check.proofs.codes_below.Goals as goal

pub loop-p-init : goal.loop-p-init
loop-p-init c = every-none _

pub loop-p-preserved : goal.loop-p-preserved
loop-p-preserved c = rw (c.wide_byte.ensures, add-one) (every_more (is_below c.args.codes.now c.args.centers) c.loop-p.p _ c.loop-p.invariant)

pub returns : goal.returns
returns c = every-done _ _ _ _ c.loop-p.invariant (omega arith)
