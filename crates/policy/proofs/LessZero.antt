-- An f32 less +0.0 is itself, bit for bit.
use Prim.Native.Nat.{ℕ, zero, suc, ◌+◌, ◌-◌, ◌*◌, ◌/◌, ◌%◌, ◌^◌, ◌≤◌, ◌<◌}
use mathlib.Core.Path.{◌≡◌, refl, sym, ◌∙◌, ap, ap₂, subst}
use mathlib.Core.Bool.{Bool, true, false, cond, ◌&&◌}
use native.Mathlib.Nat.{zero-mul, mul-one, mul_comm, mul_assoc, mul_right_comm, mul-lt-mul_of_pos_right, lt_of_mul-lt-mul_right, add-zero, sub-zero, lt_of_not-le, lt_irrefl, lt_of_lt_of_le}
use native.Mathlib.Omega.{arith}
use borrow.Author.Tests.{le-ltb}
use lib.Dec.{T, eqb, leb, ltb, ltb→lt, leb→le}
use lib.IntN.{ℤ, pos, negsuc}
use lib.Pow.{pow-add, pow_pos, pow-lt}
use lib.Ieee.{Float, nan, inf, fin, Format, binary32, prec, emax, low, up, down, size, hid, top, round, sum, add, neg, sub, fits, of_bits, to_bits}
use lib.Ieee.Exact.{HasValue, round_exact}
use lib.Ieee.Fits.{round-fits, down_pos, and_l, and_r}
use lib.Ieee.Nearest.{div_same}
use lib.Ieee.Bits.{of_bits-to_bits}
use Rattle.metrics.specs.Distance.{zero32}

-- ---- a value is told by its sign and its size

abbrev bits_of : Format → Bool → ℕ → ℕ
bits_of f s n = let k = size n - prec f in cond s (top f) 0 + k * hid f + n / 2 ^ k

value-bits : (f : Format) (x : Float) (s : Bool) (a c : ℕ) → 0 < c → HasValue x s a c → to_bits f x ≡ bits_of f s (a * 2 ^ low f / c)
unfolding to_bits
value-bits f nan s a c p v = absurd v
value-bits f (inf t) s a c p v = absurd v
value-bits f (fin t m e) s a c p v =
    let l = 2 ^ low f in
    let scaled : m * up e * l * c ≡ a * l * down e = mul_right_comm (m * up e) l c ∙ ap (λ (x : ℕ). x * l) v.1 ∙ mul_right_comm a (down e) l in
    ap₂ (bits_of f) v.0 (div_same (m * up e * l) (down e) (a * l) c (down_pos e) p scaled)

one_value : (f : Format) (x y : Float) (s : Bool) (a c : ℕ) → T (fits f x) → T (fits f y) → 0 < c → HasValue x s a c → HasValue y s a c → x ≡ y
one_value f x y s a c p q h v w =
    sym (of_bits-to_bits f x p) ∙ ap (of_bits f) (value-bits f x s a c h v ∙ sym (value-bits f y s a c h w)) ∙ of_bits-to_bits f y q

-- ---- rounding a value that the format holds changes nothing

pow_le_back : (a l : ℕ) → 2 ^ a ≤ 2 ^ l → a ≤ l
pow_le_back a l h = let k : a < suc l = lt_of_not-le (λ (g : suc l ≤ a). lt_irrefl (2 ^ l) (lt_of_lt_of_le (pow-lt g) h)) in omega arith

-- m * 2 ^ e is m * 2 ^ j of the smallest values
in-units : (l m : ℕ) (e : ℤ) → down e ≤ 2 ^ l → (j : ℕ) × (m * up e * 2 ^ l ≡ m * 2 ^ j * down e)
in-units l m (pos a) h = (a + l, mul_assoc m (2 ^ a) (2 ^ l) ∙ ap (λ (x : ℕ). m * x) (sym (pow-add 2 a l)) ∙ sym (mul-one (m * 2 ^ (a + l))))
in-units l m (negsuc a) h =
    let k = pow_le_back (suc a) l h in
    let e : l - suc a + suc a ≡ l = omega arith in
    (l - suc a, ap (λ (x : ℕ). x * 2 ^ l) (mul-one m) ∙ ap (λ (x : ℕ). m * 2 ^ x) (sym e) ∙ ap (λ (x : ℕ). m * x) (pow-add 2 (l - suc a) (suc a)) ∙ sym (mul_assoc m (2 ^ (l - suc a)) (2 ^ suc a)))

held : (f : Format) (s : Bool) (m : ℕ) (e : ℤ) → m < 2 ^ prec f → down e ≤ 2 ^ low f → m * up e < 2 ^ suc (emax f) * down e
    → HasValue (round f s (m * up e) (down e)) s (m * up e) (down e)
held f s m e small fine bounded =
    let l = 2 ^ low f in
    let u = in-units (low f) m e fine in
    let j = u.0 in
    let most : m * 2 ^ j < 2 ^ (low f + suc (emax f)) = lt_of_mul-lt-mul_right (down e)
    (subst (λ (x : ℕ). x < 2 ^ (low f + suc (emax f)) * down e) u.1
    (subst (λ (x : ℕ). m * up e * l < x)
    (mul_right_comm (2 ^ suc (emax f)) (down e) l ∙ ap (λ (x : ℕ). x * down e) (mul_comm (2 ^ suc (emax f)) l ∙ sym (pow-add 2 (low f) (suc (emax f)))))
    (mul-lt-mul_of_pos_right bounded (pow_pos (low f))))) in
    round_exact f s (m * up e) (down e) m j (down_pos e) small most u.1

round-held : (f : Format) (s : Bool) (m : ℕ) (e : ℤ) → T (fits f (fin s m e)) → round f s (m * up e) (down e) ≡ fin s m e
unfolding fits
round-held f s zero e h =
    let none : 0 * up e * 2 ^ low f ≡ 0 * 2 ^ 0 * down e = rw (zero-mul (up e), zero-mul (2 ^ low f), zero-mul (down e)) in
    one_value f (round f s (0 * up e) (down e)) (fin s 0 e) s (0 * up e) (down e) (round-fits f s (0 * up e) (down e)) h (down_pos e)
    (round_exact f s (0 * up e) (down e) 0 0 (down_pos e) (pow_pos (prec f)) (pow_pos (low f + suc (emax f))) none)
    (refl, refl)
round-held f s (suc m) e h =
    let A = eqb (suc m % 2) 1 in
    let B = ltb (suc m) (2 ^ prec f) in
    let C = leb (down e) (2 ^ low f) in
    let D = ltb (suc m * up e) (2 ^ suc (emax f) * down e) in
    one_value f (round f s (suc m * up e) (down e)) (fin s (suc m) e) s (suc m * up e) (down e) (round-fits f s (suc m * up e) (down e)) h (down_pos e)
    (held f s (suc m) e
    (ltb→lt (suc m) (2 ^ prec f) (and_r A B (and_l (A && B) C (and_l (A && B && C) D h))))
    (leb→le (down e) (2 ^ low f) (and_r (A && B) C (and_l (A && B && C) D h)))
    (ltb→lt (suc m * up e) (2 ^ suc (emax f) * down e) (and_r (A && B && C) D h)))
    (refl, refl)

-- ---- less zero

sum-zero : (f : Format) (s : Bool) (a b c : ℕ) → b ≡ 0 → sum f s a true b c ≡ round f s a c
unfolding sum
sum-zero f true a b c e = rw (e, add-zero) refl
sum-zero f false a b c e = rw (e, le-ltb a 0 (omega arith), sub-zero) refl

pub less_zero : (x : Float) → T (fits binary32 x) → sub binary32 x zero32 ≡ x
unfolding sub add neg of_bits
less_zero nan h = refl
less_zero (inf s) h = refl
less_zero (fin s m e) h = sum-zero binary32 s (m * up e * 1) (0 * down e) (down e * 1) (zero-mul (down e)) ∙ rw (mul-one (m * up e), mul-one (down e)) (round-held binary32 s m e h)
