-- `mark_all`: the sums passed are finite.
use Rattle.std.proofs.Common.{◌&&◌, refl, add-one}
use mathlib.Core.Path.{ap₂}
use Rattle.lists.specs.Tests.{every}
use Rattle.cell_sums.proofs.mark_all.Goals as goal

pub loop-c-init : goal.loop-c-init
unfolding every
loop-c-init c = refl

pub loop-c-preserved : goal.loop-c-preserved
unfolding every
loop-c-preserved c = rw add-one (ap₂ ◌&&◌ c.loop-c.invariant c.is_finite-all.ensures)
