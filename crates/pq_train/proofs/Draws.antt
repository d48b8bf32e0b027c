-- Draws that test 7 lets pass are not negative.
use Prim.Native.Nat.{ℕ}
use mathlib.Core.Path.{◌≡◌}
use mathlib.Core.Bool.{false}
use mathlib.Core.List.{List}
use borrow.Author.Tests.{not-false}
use lib.ListN.{length, get_or}
use lib.Ieee.{Float, nan}
use Rattle.lists.proofs.Tests.{and_l, every_true}
use Rattle.pq_params.specs.Refusals.{any_draw_out, in_draw_range}
use Rattle.kmeans_split.specs.Split.{NotNegative}

pub in-range : (draws : List Float) → any_draw_out draws ≡ false → NotNegative draws
unfolding any_draw_out
in-range draws e k h = and_l _ _ (every_true (λ (i : ℕ). in_draw_range (get_or draws i nan)) (length draws) (not-false _ e) k h)
