use Prim.Native.Nat.{◌≤◌}
use mathlib.Core.Path.{◌≡◌}
use lib.ListN.{length}
use Rattle.std.specs.Prelude.{Some}
use Rattle.metrics.specs.Distance.{sum_to, term_at, value_in, coordinate_in}
use Rattle.metrics.proofs.squares_less.Given as goal

abbrev pub invariant-loop-j : goal.invariant-loop-j
invariant-loop-j l =
    (l.j ≤ length l.center) × (l.total ≡ sum_to (term_at (value_in (Some l.residual) l.x) (coordinate_in l.center)) l.j)
