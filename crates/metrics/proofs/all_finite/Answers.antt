-- `all_finite`: whether the coordinates passed are finite.
use mathlib.Core.Path.{refl, ap₂}
use mathlib.Core.Bool.{◌&&◌}
use native.Mathlib.Numerals.{add-one}
use Rattle.lists.specs.Tests.{every}
use Rattle.metrics.proofs.all_finite.Goals as goal

pub loop-x-init : goal.loop-x-init
unfolding every
loop-x-init c = refl

pub loop-x-preserved : goal.loop-x-preserved
unfolding every
loop-x-preserved c = rw add-one (ap₂ ◌&&◌ c.loop-x.invariant c.is_finite-all.ensures)
