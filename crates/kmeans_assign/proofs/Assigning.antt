-- Step 3: the centre that `nearest` finds is the lowest that no other is strictly less than.
use Prim.Native.Nat.{ℕ, zero, suc, ◌<◌}
use mathlib.Core.Path.{◌≡◌, refl, sym, ◌∙◌}
use mathlib.Core.List.{List}
use mathlib.Core.Bool.{Bool, true, false, true≢false}
use native.Mathlib.Decide.{dec_lt}
use native.Mathlib.Omega.{arith}
use lib.Ieee.{Float, nan, inf, fin}
use Rattle.std.specs.Prelude.{Option, Some, None}
use Rattle.lists.proofs.Tables.{last_or}
use Rattle.metrics.specs.Distance.{worked, squared, coordinate}
use Rattle.metrics.proofs.Order.{lt_irrefl, lt-asym, lt-not-lt}
use Rattle.kmeans_assign.specs.Assign.{less_of, nearest, distance_to, chosen}
use Rattle.kmeans_assign.specs.AssignFacts.{Sound, NearestOf}
use Rattle.kmeans_assign.proofs.Choosing.{nearest-one}

-- ---- the order of worked distances

-- a mark is never less than another
pub mark-less : (v : Option Float) → less_of None v ≡ false
mark-less v = refl

-- every finite distance is less than a mark
pub less-mark : (x : Float) → less_of (Some x) None ≡ true
less-mark x = refl

less-irrefl : (v : Option Float) → Sound v → less_of v v ≡ false
less-irrefl (Some x) s = lt_irrefl x s
less-irrefl None s = refl

less-asym : (v w : Option Float) → Sound v → Sound w → less_of v w ≡ true → less_of w v ≡ false
less-asym (Some x) (Some y) s t e = lt-asym x y s t e
less-asym (Some x) None s t e = refl
less-asym None w s t e = absurd (true≢false (sym e))

-- u is less than v, and w is not: u is less than w
less-not-less : (u v w : Option Float) → Sound u → Sound v → Sound w → less_of u v ≡ true → less_of w v ≡ false → less_of u w ≡ true
less-not-less None v w r s t e f = absurd (true≢false (sym e))
less-not-less (Some x) v None r s t e f = refl
less-not-less (Some x) None (Some z) r s t e f = absurd (true≢false f)
less-not-less (Some x) (Some y) (Some z) r s t e f = lt-not-lt x y z r s t e f

pub worked-sound : (x : Float) → Sound (worked x)
unfolding worked
worked-sound nan = tt
worked-sound (inf s) = tt
worked-sound (fin s m e) = refl

-- ---- nearest

kept : (d : ℕ → Option Float) (n : ℕ) → less_of (d n) (d (nearest d n)) ≡ false → nearest d (suc n) ≡ nearest d n
unfolding nearest
kept d n e = rw e

replaced : (d : ℕ → Option Float) (n : ℕ) → less_of (d n) (d (nearest d n)) ≡ true → nearest d (suc n) ≡ n
unfolding nearest
replaced d n e = rw e

-- one more centre, which is not strictly less than the best, or is
module _ (d : ℕ → Option Float) (n c : ℕ) (h : NearestOf d n c) where
  no_less : less_of (d n) (d c) ≡ false → NearestOf d (suc n) c
  no_less e = record {
    below = omega arith;
    least = λ i k. last_or i n k (λ p. rw p e) (h.least i);
    lowest = h.lowest;
  }

  is-less : ((i : ℕ) → i < suc n → Sound (d i)) → less_of (d n) (d c) ≡ true → NearestOf d (suc n) n
  is-less s e =
      let more : (i : ℕ) → i < n → less_of (d n) (d i) ≡ true =
      λ i k. less-not-less (d n) (d c) (d i) (s n (omega arith)) (s c (omega (arith, h.below))) (s i (omega arith)) e (h.least i k) in
      record {
        below = omega arith;
        least = λ i k. last_or i n k (λ p. rw p (less-irrefl (d n) (s n (omega arith)))) (λ l. less-asym (d n) (d i) (s n (omega arith)) (s i k) (more i l));
        lowest = more;
      }

pub nearest-rule : (d : ℕ → Option Float) (n : ℕ) → 0 < n → ((i : ℕ) → i < n → Sound (d i)) → NearestOf d n (nearest d n)
nearest-rule d zero h s = absurd (omega arith)
nearest-rule d (suc zero) h s = rw (nearest-one d) (record {
  below = omega arith;
  least = λ i k. last_or i 0 k (λ p. rw p (less-irrefl (d 0) (s 0 h))) (λ l. absurd (omega arith));
  lowest = λ i k. absurd (omega arith);
})
nearest-rule d (suc (suc n)) h s = go (less_of (d (suc n)) (d (nearest d (suc n)))) refl (nearest-rule d (suc n) (omega arith) (λ i k. s i (omega arith)))
  where
    go : (b : Bool) → less_of (d (suc n)) (d (nearest d (suc n))) ≡ b → NearestOf d (suc n) (nearest d (suc n)) → NearestOf d (suc (suc n)) (nearest d (suc (suc n)))
    go true e g = rw (replaced d (suc n) e) (is-less d (suc n) (nearest d (suc n)) g s e)
    go false e g = rw (kept d (suc n) e) (no_less d (suc n) (nearest d (suc n)) g e)

-- no other centre is so
pub nearest-only : (d : ℕ → Option Float) (n b c : ℕ) → NearestOf d n b → NearestOf d n c → b ≡ c
nearest-only d n b c g h = elim (dec_lt b c) [
  | yes l ↦ absurd (true≢false (sym (h.lowest b l) ∙ g.least c h.below))
  | no l ↦ elim (dec_lt c b) [
    | yes m ↦ absurd (true≢false (sym (g.lowest c m) ∙ h.least b g.below))
    | no m ↦ omega arith
  ]
]

-- the centre that values are assigned to
pub chosen-rule : (x : ℕ → Float) (cs : List Float) (w n : ℕ) → 0 < n → NearestOf (distance_to x cs w) n (chosen x cs w n)
chosen-rule x cs w n h = nearest-rule (distance_to x cs w) n h (λ i k. worked-sound (squared x (coordinate cs w i) w))
