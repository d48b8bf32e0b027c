use mathlib.Core.Path.{◌≡◌}
use Rattle.lists.specs.Tests.{every}
use Rattle.metrics.specs.Distance.{finite_in}
use Rattle.metrics.proofs.all_finite.Given as goal

abbrev pub invariant-loop-x : goal.invariant-loop-x
invariant-loop-x l = l.all ≡ every (finite_in l.s) l.x-index
