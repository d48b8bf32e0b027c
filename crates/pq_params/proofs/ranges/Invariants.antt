use mathlib.Core.Path.{◌≡◌}
use mathlib.Core.List.{◌++◌}
use lib.ListN.{length, drop}
use Rattle.lists.specs.Lists.{tab}
use Rattle.pq_params.specs.Ranges.{pair_at}
use Rattle.pq_params.proofs.ranges.Given as goal

abbrev pub invariant-loop-i : goal.invariant-loop-i
invariant-loop-i l =
    (length l.pair-items ≡ 64) × (l.pair-items ≡ tab (pair_at l.d l.nsub) l.i ++ drop l.i l.initial.pair-items)
