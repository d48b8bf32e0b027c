use mathlib.Core.Path.{◌≡◌}
use Rattle.lists.specs.Tests.{every}
use Rattle.celled_lists.specs.Lists.{is_below}
use Rattle.celled_check.proofs.codes_below.Given as goal

abbrev pub invariant-loop-p : goal.invariant-loop-p
invariant-loop-p l = l.below ≡ every (is_below l.codes l.centers) l.p
