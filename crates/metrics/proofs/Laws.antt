-- Laws on sums, distances and marks.
use Prim.Native.Nat.{ℕ, zero, suc, ◌+◌, ◌*◌, ◌<◌}
use mathlib.Core.Path.{◌≡◌, refl, sym, ap, ap₂}
use mathlib.Core.Bool.{Bool, true, false}
use mathlib.Core.List.{List}
use native.Mathlib.Nat.{le_refl, sub_self, zero-mul, mul-pos}
use native.Mathlib.Omega.{arith}
use borrow.Author.Tests.{le-ltb}
use lib.Dec.{lit<}
use lib.ListN.{length}
use lib.IntN.{ℤ}
use lib.Ieee.{Float, nan, inf, fin, binary32, add, sub, eq, neg, of_bits, round, up, down}
use lib.Ieee.Fits.{down_pos}
use lib.Ieee.Scale.{finite, round_same}
use Rattle.lists.specs.Lists.{part_if, Part}
use Rattle.lists.proofs.Parts.{get_or-part}
use Rattle.metrics.specs.Distance.{residual_at, sum_to, coordinate_in, coordinate, term_at, squared, worked, distance}
use Rattle.std.specs.Prelude.{Option, Some, None}

pub sum-ext : (f g : ℕ → Float) (n : ℕ) → ((j : ℕ) → j < n → f j ≡ g j) → sum_to f n ≡ sum_to g n
unfolding sum_to
sum-ext f g zero e = refl
sum-ext f g (suc n) e = ap₂ (add binary32) (sum-ext f g n (λ j h. e j (omega arith))) (e n (omega arith))

-- a distance depends on the values and the centre's coordinates alone
pub squared-ext : (x y c d : ℕ → Float) (w : ℕ) → ((j : ℕ) → j < w → x j ≡ y j) → ((j : ℕ) → j < w → c j ≡ d j) → squared x c w ≡ squared y d w
unfolding squared
squared-ext x y c d w e f = sum-ext (term_at x c) (term_at y d) w (λ j h. rw (e j h, f j h))

-- a slice that is the stretch of centre i is that centre
pub stretch-distance : (x : ℕ → Float) (cs c : List Float) (i w : ℕ) → Part cs (i * w) w c → distance x (coordinate_in c) (length c) ≡ distance x (coordinate cs w i) w
stretch-distance x cs c i w p =
    rw p.long (ap worked (squared-ext x x (coordinate_in c) (coordinate cs w i) w (λ j h. refl) (λ j h. rw p.is (get_or-part cs (i * w) w j nan h))))

-- a part of a residual gives the residual's coordinates
pub residual-part : (residual : Option (List Float)) (a w j : ℕ) → j < w → residual_at (part_if residual a w) j ≡ residual_at residual (a + j)
residual-part None a w j h = refl
residual-part (Some c) a w j h = ap Some (get_or-part c a w j nan h)

-- a mark is what is not finite
pub worked-finite : (x : Float) → finite x ≡ true → Some x ≡ worked x
unfolding worked
worked-finite nan e = cc
worked-finite (inf s) e = cc
worked-finite (fin s m e) h = refl

pub worked_not : (x : Float) → finite x ≡ false → None ≡ worked x
unfolding worked
worked_not nan e = refl
worked_not (inf s) e = refl
worked_not (fin s m e) h = cc

-- what is marked is not finite
pub marked : (x : Float) → worked x ≡ None → finite x ≡ false
unfolding worked
marked nan e = refl
marked (inf s) e = refl
marked (fin s m k) e = cc

-- what is not marked is finite, and is what the answer carries
pub unmarked : (x v : Float) → worked x ≡ Some v → finite x ≡ true
unfolding worked
unmarked nan v e = cc
unmarked (inf s) v e = cc
unmarked (fin s m k) v e = refl

pub carried : (x v : Float) → worked x ≡ Some v → v ≡ x
unfolding worked
carried nan v e = cc
carried (inf s) v e = cc
carried (fin s m k) v e = cc

-- x − x is a zero exactly where x is finite
round-zero : (s : Bool) (e : ℤ) → round binary32 s 0 (down e * down e) ≡ round binary32 s 0 1
round-zero s e = round_same binary32 s 0 (down e * down e) 0 1 (mul-pos (down_pos e) (down_pos e)) (lit< tt) (sym (zero-mul (down e * down e)))

pub zero_same : (x : Float) → eq (sub binary32 x x) (of_bits binary32 0) ≡ finite x
unfolding eq of_bits neg sub
zero_same nan = refl
zero_same (inf true) = refl
zero_same (inf false) = refl
zero_same (fin true m e) = simp (le-ltb (m * up e * down e) (m * up e * down e) (le_refl (m * up e * down e)), sub_self, round-zero false e)
zero_same (fin false m e) = simp (le-ltb (m * up e * down e) (m * up e * down e) (le_refl (m * up e * down e)), sub_self, round-zero false e)
