-- The coordinates of a split: each of the two centres gets its own from the donor's.
use Prim.Native.Nat.{ℕ, ◌+◌, ◌*◌, ◌≤◌, ◌<◌}
use mathlib.Core.Path.{◌≡◌, ◌∙◌, ap}
use mathlib.Core.List.{List}
use native.Mathlib.Decide.{dec_lt}
use native.Mathlib.Omega.{arith}
use native.Mathlib.Numerals.{add-one}
use lib.ListN.{length, get_or, set}
use lib.Ieee.{Float, nan}
use Rattle.lists.specs.Lists.{part, put_part, tab}
use Rattle.lists.proofs.Tables.{length-tab, tab-ext}
use Rattle.lists.proofs.Joins.{within}
use Rattle.lists.proofs.Parts.{get_or-part, get_or-put_part-before, get_or-put_part-after, put-more}
use Rattle.metrics.specs.Distance.{coordinate}
use Rattle.kmeans_split.specs.Split.{got_at, left_at, split_centers}
use Rattle.kmeans_split.specs.SplitInner.{left_in}

-- a coordinate of another centre is not in the stretch of centre i
pub donor-read : (cs p : List Float) (w i a j l : ℕ) → i * w + w ≤ length cs → (a ≡ i → ⊥) → j < w → l ≤ w → length p ≡ l
    → get_or (put_part cs (i * w) l p) (a * w + j) nan ≡ coordinate cs w a j
donor-read cs p w i a j l h n k m e = elim (dec_lt a i) [
  | yes q ↦ get_or-put_part-before cs p (i * w) l (a * w + j) nan (omega arith) (omega (arith, within a i w q))
  | no q ↦ get_or-put_part-after cs p (i * w) l (a * w + j) nan (omega arith) e (omega (arith, within i a w (lt_of_le_of_ne (omega arith) n)))
]
  where
    lt_of_le_of_ne : i ≤ a → (a ≡ i → ⊥) → i < a
    lt_of_le_of_ne q r = elim (dec_lt i a) [ yes s ↦ s | no s ↦ absurd (r (omega arith)) ]

-- one more coordinate of centre i is given
pub give-step : (cs now : List Float) (w i a j : ℕ) (v : Float) → i * w + w ≤ length cs → a * w + w ≤ length cs → (a ≡ i → ⊥) → j < w
    → now ≡ put_part cs (i * w) j (tab (got_at (coordinate cs w a)) j) → v ≡ got_at (λ (k : ℕ). get_or now (a * w + k) nan) j
    → set now (i * w + j) v ≡ put_part cs (i * w) (j + 1) (tab (got_at (coordinate cs w a)) (j + 1))
unfolding tab
give-step cs now w i a j v h k n l e f =
    let t = tab (got_at (coordinate cs w a)) j in
    let m = length-tab (got_at (coordinate cs w a)) j in
    let q : v ≡ got_at (coordinate cs w a) j = f ∙ rw (e, donor-read cs t w i a j j h n l (omega arith) m) in
    rw (q, e, add-one) (put-more cs t (i * w) j (got_at (coordinate cs w a) j) nan (omega arith) m)

-- the donor's own coordinates are as they were when it is moved the other way
pub split-is : (cs now : List Float) (w i a : ℕ) → i * w + w ≤ length cs → a * w + w ≤ length cs → (a ≡ i → ⊥)
    → now ≡ put_part cs (i * w) w (tab (got_at (coordinate cs w a)) w) → put_part now (a * w) w (tab (left_in (part now (a * w) w)) w) ≡ split_centers cs w i a
unfolding split_centers
split-is cs now w i a h k n e =
    let t = tab (got_at (coordinate cs w a)) w in
    rw e (ap (put_part (put_part cs (i * w) w t) (a * w) w) (tab-ext _ _ w (λ j l.
    ap (λ (v : Float). left_at (λ (k : ℕ). v) j) (get_or-part (put_part cs (i * w) w t) (a * w) w j nan l ∙ donor-read cs t w i a j w h n l (omega arith) (length-tab _ w)))))
