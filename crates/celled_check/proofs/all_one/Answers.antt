-- `all_one`: every count passed is 1.
use native.Mathlib.Omega.{arith}
use native.Mathlib.Numerals.{add-one}
use Rattle.lists.proofs.Walks.{every-none, every_more, every-done}
use Rattle.celled_check.specs.CheckInner.{is_one}
use Rattle.celled_check.proofs.all_one.Goals as goal

pub loop-count-init : goal.loop-count-init
loop-count-init c = every-none _

pub loop-count-preserved : goal.loop-count-preserved
loop-count-preserved c = rw add-one (every_more (is_one c.args.counts.now) c.loop-count.count-index _ c.loop-count.invariant)

pub returns : goal.returns
returns c = every-done _ _ _ _ c.loop-count.invariant (omega arith)
