use Rattle.pq_params.specs.Refusals.{in_draw_range}
use lib.Ieee.{nan}
use mathlib.Core.Bool.{true}
use Prim.Native.Nat.{ℕ, ◌≤◌, ◌<◌}
use mathlib.Core.Path.{◌≡◌}
use lib.ListN.{length, get_or}
use Rattle.pq_params.proofs.any_draw_out.Given as goal

abbrev pub invariant-loop-d : goal.invariant-loop-d
invariant-loop-d l =
    (l.d-index ≤ length l.draws) × ((k : ℕ) → k < l.d-index → in_draw_range (get_or l.draws k nan) ≡ true)
