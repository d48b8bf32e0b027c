use mathlib.Core.Path.{◌≡◌}
use Rattle.lists.specs.Tests.{every}
use Rattle.celled_check.specs.CheckInner.{is_one}
use Rattle.celled_check.proofs.all_one.Given as goal

abbrev pub invariant-loop-count : goal.invariant-loop-count
invariant-loop-count l = l.one ≡ every (is_one l.counts) l.count-index
