-- The donor walk goes round the centres, and the donor is another centre that has rows.
use Prim.Native.Nat.{ℕ, ◌+◌, ◌-◌, ◌*◌, ◌%◌, ◌<◌}
use mathlib.Core.Path.{◌≡◌, refl, sym, ◌∙◌}
use mathlib.Core.List.{List}
use mathlib.Core.Bool.{Bool, true, false, cond, true≢false}
use native.Mathlib.Nat.{zero-mul, mod-lt, mul-pos, mod-add-mod}
use native.Mathlib.Omega.{arith}
use borrow.Author.Tests.{le-ltb, eqb-true, eqb-false}
use lib.ListN.{length, get_or, take, drop, length-take, length-drop}
use Rattle.lists.specs.Lists.{part}
use Rattle.lists.proofs.Parts.{get_or-part}
use lib.Dec.{eqb}
use lib.IntN.{ℤ, pos}
use lib.Ieee.{Float, nan, inf, fin, binary64, up, down, unlike, lt, eq, le, div, round, of_int, of_bits}
use lib.Ieee.Fits.{up_pos}
use lib.Ieee.Scale.{round_same}
use Rattle.std.specs.Prelude.{Some}
use Rattle.lists.proofs.Tests.{and_l}
use Rattle.kmeans_average.proofs.Finite.{lowest-below, lowest-hit}
use Rattle.kmeans_assign.specs.Task.{Task}
use Rattle.kmeans_split.specs.Split.{walk_at, steps_of, draws_left, taken_at, NotNegative}
use Rattle.kmeans_split.specs.SplitFacts.{DonorOf}

-- the donor walk's next step
pub walk-next : (t : Task) (i s a b : ℕ) → a ≡ walk_at t i s → b ≡ (a + 1) % t.centers → b ≡ walk_at t i (s + 1)
walk-next t i s a b e f =
    let g : i + 1 + (s + 1) ≡ i + 1 + s + 1 = omega arith in
    f ∙ rw (e, g) (mod-add-mod (i + 1 + s) t.centers 1)

pub walk-below : (t : Task) (i s : ℕ) → i < t.centers → walk_at t i s < t.centers
walk-below t i s h = mod-lt (i + 1 + s) (omega arith)

-- the steps before the one that takes its donor are fewer than the draws that are left
pub steps-below : (t : Task) (counts : List ℕ) (used i s : ℕ) → Some s ≡ steps_of t counts used i → s < draws_left t used
steps-below t counts used i s e = lowest-below (taken_at t counts used i) (draws_left t used) s (sym e)

-- the draws that are left, as a slice
pub left-long : (draws : List Float) (used : ℕ) → length (take (length draws - used) (drop used draws)) ≡ length draws - used
left-long draws used = simp (length-take, length-drop) (omega arith)

pub left-at : (draws : List Float) (used s : ℕ) → s < length draws - used → get_or (take (length draws - used) (drop used draws)) s nan ≡ get_or draws (used + s) nan
unfolding part
left-at draws used s h = get_or-part draws used (length draws - used) s nan h

-- a zero divided by a number is a zero
round-zero : (s : Bool) (den : ℕ) → 0 < den → round binary64 s 0 den ≡ fin s 0 (pos 0)
unfolding round
round-zero s den h = round_same binary64 s 0 den 0 1 h (omega arith) (omega arith)

-- of the negative floats only -0.0 is 0 or more
minus-zero : (m : ℕ) (e : ℤ) → le (of_bits binary64 0) (fin true m e) ≡ true → 0 * down e ≡ m * up e * 1
unfolding lt eq le of_bits
minus-zero m e h = eqb-true (0 * down e) (m * up e * 1) (and_l _ _ h)

-- a draw of 0 or more is not below a zero of either sign
not-below : (s : Bool) (d : Float) → le (of_bits binary64 0) d ≡ true → lt d (fin s 0 (pos 0)) ≡ false
unfolding lt eq le of_bits
not-below s nan h = refl
not-below s (inf true) h = sym h
not-below s (inf false) h = refl
not-below true (fin true m e) h = le-ltb (0 * down e) (m * up e * 1) (omega (arith, minus-zero m e h))
not-below true (fin false m e) h = refl
not-below false (fin true m e) h = le-ltb 0 (m * up e * 1 + 0 * down e) (omega (arith, minus-zero m e h))
not-below false (fin false m e) h = le-ltb (m * up e * 1) (0 * down e) (omega arith)

below_nan : (d : Float) → lt d nan ≡ false
unfolding lt
below_nan nan = refl
below_nan (inf s) = refl
below_nan (fin s m e) = refl

-- so it is not below 0 / y, whatever y is
not-below-share : (d y : Float) → le (of_bits binary64 0) d ≡ true → lt d (div binary64 (of_int binary64 (pos 0)) y) ≡ false
unfolding div of_int
not-below-share d nan h = below_nan d
not-below-share d (inf t) h = not-below (unlike false t) d h
not-below-share d (fin t n e) h = go (eqb n 0) refl
  where
    divisor : eqb n 0 ≡ false → 0 < n * up e * 1
    divisor p =
        let above : 0 < n = omega (arith, eqb-false n 0 p) in
        omega (arith, mul-pos above (up_pos e))

    go : (b : Bool) → eqb n 0 ≡ b → lt d (cond b nan (round binary64 (unlike false t) (0 * down e) (n * up e * 1))) ≡ false
    go true p = below_nan d
    go false p = rw (zero-mul (down e), round-zero (unlike false t) (n * up e * 1) (divisor p)) (not-below (unlike false t) d h)

-- a centre that is taken has rows
pub taken-rows : (t : Task) (counts : List ℕ) (used i s : ℕ) → NotNegative t.draws → s < draws_left t used → taken_at t counts used i s ≡ true
    → get_or counts (walk_at t i s) 0 ≡ 0 → ⊥
taken-rows t counts used i s d h e z =
    true≢false (sym (rw z at e) ∙ not-below-share (get_or t.draws (used + s) nan) (of_int binary64 (pos t.n)) (d (used + s) (omega arith)))

-- the donor of an empty centre, where the draws do not end first
pub donor-rule : (t : Task) (counts : List ℕ) (used i s : ℕ) → NotNegative t.draws → i < t.centers → get_or counts i 0 ≡ 0
    → Some s ≡ steps_of t counts used i → DonorOf t counts i (walk_at t i s)
donor-rule t counts used i s d h z e =
    let rows = taken-rows t counts used i s d (steps-below t counts used i s e) (lowest-hit (taken_at t counts used i) (draws_left t used) s (sym e)) in
    record { below = walk-below t i s h; other = λ p. rows (rw p z); rows = rows }
