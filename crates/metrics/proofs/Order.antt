-- The order of finite floats: `lt` and `eq` by numbers over a common denominator. -0.0 and +0.0 are equals in it.
use Prim.Native.Nat.{ℕ, zero, suc, ◌+◌, ◌*◌, ◌≤◌, ◌<◌}
use mathlib.Core.Path.{◌≡◌, sym, ◌∙◌}
use mathlib.Core.Bool.{true, false, ◌&&◌, and-true, and-false, false≢true}
use native.Mathlib.Nat.{add-zero, zero-add, add_comm, zero-mul, mul-le-mul_right, le_of_mul-le-mul_right}
use native.Mathlib.Decide.{dec_le, ℕ_discrete}
use native.Mathlib.Omega.{arith}
use borrow.Author.Tests.{lt-ltb, le-ltb, ltb-true, ltb-false, eq-eqb, ne_eqb}
use lib.Dec.{ltb, eqb}
use lib.Ieee.{Float, nan, inf, fin, up, down, lt, eq}
use lib.Ieee.Positive.{den, den_pos}
use lib.Ieee.Scale.{finite}

-- x is neither a NaN nor an infinity
abbrev pub Fin : Float → Type 0
Fin x = finite x ≡ true

-- x is gain x / den x − loss x / den x
abbrev pub gain : Float → ℕ
gain nan = 0
gain (inf s) = 0
gain (fin true m e) = 0
gain (fin false m e) = m * up e

abbrev pub loss : Float → ℕ
loss nan = 0
loss (inf s) = 0
loss (fin true m e) = m * up e
loss (fin false m e) = 0

-- x against y, over a common denominator: x is below y exactly if side x y is below side y x
abbrev pub side : Float → Float → ℕ
side x y = gain x * den y + loss y * den x

pub lt-is : (x y : Float) → Fin x → Fin y → lt x y ≡ ltb (side x y) (side y x)
unfolding lt
lt-is nan y f g = absurd (false≢true f)
lt-is (inf s) y f g = absurd (false≢true f)
lt-is (fin s m e) nan f g = absurd (false≢true g)
lt-is (fin s m e) (inf t) f g = absurd (false≢true g)
lt-is (fin false m e) (fin false n d) f g = simp (zero-mul, add-zero)
lt-is (fin false m e) (fin true n d) f g = sym (le-ltb (m * up e * down d + n * up d * down e) (0 * down e + 0 * down d) (omega arith))
lt-is (fin true m e) (fin false n d) f g = simp zero-mul (rw (add_comm (m * up e * down d)))
lt-is (fin true m e) (fin true n d) f g = simp (zero-mul, zero-add)

eqb-sym : (a b : ℕ) → eqb a b ≡ eqb b a
eqb-sym a b = elim (ℕ_discrete a b) [
  | yes e ↦ eq-eqb a b e ∙ sym (eq-eqb b a (sym e))
  | no n ↦ ne_eqb a b n ∙ sym (ne_eqb b a (λ e. n (sym e)))
]

-- a and −b are equal exactly if both are 0
opposite : (a b : ℕ) → (eqb a b && eqb a 0) ≡ eqb (a + b) 0
opposite zero b = rw zero-add (and-true (eqb 0 b) ∙ eqb-sym 0 b)
opposite (suc a) b = rw (ne_eqb (suc a) 0 (λ e. omega arith), ne_eqb (suc a + b) 0 (λ e. omega arith)) (and-false (eqb (suc a) b))

pub eq_is : (x y : Float) → Fin x → Fin y → eq x y ≡ eqb (side x y) (side y x)
unfolding eq
eq_is nan y f g = absurd (false≢true f)
eq_is (inf s) y f g = absurd (false≢true f)
eq_is (fin s m e) nan f g = absurd (false≢true g)
eq_is (fin s m e) (inf t) f g = absurd (false≢true g)
eq_is (fin false m e) (fin false n d) f g = simp (zero-mul, add-zero) (and-true _)
eq_is (fin false m e) (fin true n d) f g = simp (zero-mul, add-zero) (opposite (m * up e * down d) (n * up d * down e))
eq_is (fin true m e) (fin false n d) f g =
    simp (zero-mul, add-zero) (opposite (m * up e * down d) (n * up d * down e) ∙ rw (add_comm (n * up d * down e)) (eqb-sym (m * up e * down d + n * up d * down e) 0))
eq_is (fin true m e) (fin true n d) f g = simp (zero-mul, zero-add) (and-true _ ∙ eqb-sym (m * up e * down d) (n * up d * down e))

-- p / x − n / x ≤ q / y − m / y ≤ r / z − l / z, by cross products
cross-le : (p n x q m y r l z : ℕ) → 0 < y → p * y + m * x ≤ q * x + n * y → q * z + l * y ≤ r * y + m * z → p * z + l * x ≤ r * x + n * z
cross-le p n x q m y r l z Y h k =
    let c : (p * z + l * x) * y ≤ (r * x + n * z) * y = omega (arith, mul-le-mul_right z h, mul-le-mul_right x k) in
    le_of_mul-le-mul_right c Y

pub side-trans : (x y z : Float) → side x y ≤ side y x → side y z ≤ side z y → side x z ≤ side z x
side-trans x y z a b = cross-le (gain x) (loss x) (den x) (gain y) (loss y) (den y) (gain z) (loss z) (den z) (den_pos y) a b

-- ---- `lt` on finite floats

pub lt_irrefl : (x : Float) → Fin x → lt x x ≡ false
lt_irrefl x f = lt-is x x f f ∙ le-ltb (side x x) (side x x) (omega arith)

-- "not below" is transitive
pub not-lt-trans : (x y z : Float) → Fin x → Fin y → Fin z → lt x y ≡ false → lt y z ≡ false → lt x z ≡ false
not-lt-trans x y z f g h a b =
    let p = ltb-false (side x y) (side y x) (sym (lt-is x y f g) ∙ a) in
    let q = ltb-false (side y z) (side z y) (sym (lt-is y z g h) ∙ b) in
    lt-is x z f h ∙ le-ltb (side x z) (side z x) (side-trans z y x q p)

-- x is below y, and z is not below y: x is below z
pub lt-not-lt : (x y z : Float) → Fin x → Fin y → Fin z → lt x y ≡ true → lt z y ≡ false → lt x z ≡ true
lt-not-lt x y z f g h a b =
    let p = ltb-true (side x y) (side y x) (sym (lt-is x y f g) ∙ a) in
    let q = ltb-false (side z y) (side y z) (sym (lt-is z y h g) ∙ b) in
    lt-is x z f h ∙ elim (dec_le (side z x) (side x z)) [
      | yes w ↦ absurd (omega (arith, side-trans y z x q w))
      | no n ↦ lt-ltb (side x z) (side z x) (omega arith)
    ]

pub lt-asym : (x y : Float) → Fin x → Fin y → lt x y ≡ true → lt y x ≡ false
lt-asym x y f g a = lt-is y x g f ∙ le-ltb (side y x) (side x y) (omega (arith, ltb-true (side x y) (side y x) (sym (lt-is x y f g) ∙ a)))

pub lt_trans : (x y z : Float) → Fin x → Fin y → Fin z → lt x y ≡ true → lt y z ≡ true → lt x z ≡ true
lt_trans x y z f g h a b = lt-not-lt x y z f g h a (lt-asym y z g h b)
