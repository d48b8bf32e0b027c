-- The range rule: what holds of s = D / n_sub, e = D mod s, and of the ranges that they give.
use Prim.Native.Nat.{ℕ, zero, suc, ◌+◌, ◌*◌, ◌%◌, ◌≤◌, ◌<◌, min}
use mathlib.Core.Path.{◌≡◌, refl, sym, ◌∙◌, ap}
use mathlib.Core.Bool.{Bool, true, false, cond}
use mathlib.Core.List.{[], ◌∷◌}
use native.Mathlib.Nat.{suc-mul, zero-mul, mul-le-mul_right, div-add-mod, div-add-mod', mul-add-mod_self_left, mod-le, mod-lt, div-le_self, le-div_iff_mul-le, one-mul}
use native.Mathlib.Decide.{dec_lt}
use native.Mathlib.Omega.{arith}
use borrow.Author.Tests.{lt-ltb, le-ltb}
use Rattle.pq_params.specs.Bounds.{bad_range}
use Rattle.pq_params.specs.Ranges.{short_width, long_ranges, width_of, begin_of, end_of, covered_of, ranges_used, pair_at}
use Rattle.pq_params.proofs.Bounds.{range-bounds}

-- ---- for any D and n_sub

module _ (d nsub : ℕ) where
  -- the first e ranges are s+1 long
  pub width-long : (i : ℕ) → i < long_ranges d nsub → width_of d nsub i ≡ short_width d nsub + 1
  unfolding width_of
  width-long i h = rw (lt-ltb i (long_ranges d nsub) h)

  -- the others s
  pub width-short : (i : ℕ) → long_ranges d nsub ≤ i → width_of d nsub i ≡ short_width d nsub
  unfolding width_of
  width-short i h = rw (le-ltb i (long_ranges d nsub) h)

  -- what holds of a long range and of a short one holds of range i
  by_width {ℓ} : {B : Type ℓ} (i : ℕ) → (i < long_ranges d nsub → width_of d nsub i ≡ short_width d nsub + 1 → B)
      → (long_ranges d nsub ≤ i → width_of d nsub i ≡ short_width d nsub → B) → B
  by_width i f g = elim (dec_lt i (long_ranges d nsub)) [
    | yes h ↦ f h (width-long i h)
    | no h ↦ let k : long_ranges d nsub ≤ i = omega arith in g k (width-short i k)
  ]

  -- the first begins at 0
  pub begin-zero : begin_of d nsub 0 ≡ 0
  unfolding begin_of
  begin-zero = refl

  -- each other one where the one before it ends
  pub begin-next : (i : ℕ) → begin_of d nsub (suc i) ≡ begin_of d nsub i + width_of d nsub i
  unfolding begin_of
  begin-next i = refl

  -- range i begins at i * s, and one further for each long one before it
  pub begin-at : (i : ℕ) → begin_of d nsub i ≡ i * short_width d nsub + min i (long_ranges d nsub)
  begin-at zero = omega (arith, begin-zero, zero-mul (short_width d nsub))
  begin-at (suc i) =
      let b = begin-at i in
      let n = begin-next i in
      let m = suc-mul i (short_width d nsub) in
      by_width i (λ h e. omega arith) (λ h e. omega arith)

  -- a later range begins no earlier
  pub begin-mono : (i j : ℕ) → i ≤ j → begin_of d nsub i ≤ begin_of d nsub j
  begin-mono i j h = omega (arith, begin-at i, begin-at j, mul-le-mul_right (short_width d nsub) h)

-- ---- for D and n_sub within their bounds

module _ (d nsub : ℕ) (good : bad_range d nsub ≡ false) where
  -- s is at least 1
  pub short-some : 1 ≤ short_width d nsub
  short-some =
      let b = range-bounds d nsub good in
      (le-div_iff_mul-le b.nsub-some).1 (rw one-mul b.nsub-fits)

  -- e is at most what the division by n_sub leaves: D = n_sub * s + D mod n_sub, so e = (D mod n_sub) mod s
  long_rest : long_ranges d nsub ≤ d % nsub
  long_rest =
      let s = short_width d nsub in
      let p : d % s ≡ d % nsub % s = ap (λ (x : ℕ). x % s) (sym (div-add-mod' d nsub)) ∙ mul-add-mod_self_left s nsub (d % nsub) in
      omega (arith, mod-le (d % nsub) s)

  -- e is below n_sub
  pub long-few : long_ranges d nsub < nsub
  long-few = omega (arith, long_rest, mod-lt d (range-bounds d nsub good).nsub-some)

  -- C = n_sub * s + e
  pub covered-is : covered_of d nsub ≡ nsub * short_width d nsub + long_ranges d nsub
  covered-is = omega (arith, begin-at d nsub nsub, long-few)

  -- C is never above D
  pub covered-within : covered_of d nsub ≤ d
  covered-within = omega (arith, covered-is, long_rest, div-add-mod d nsub)

  -- no range begins or ends past D
  pub begin-within : (i : ℕ) → i ≤ nsub → begin_of d nsub i ≤ d
  begin-within i h = omega (arith, begin-mono d nsub i nsub h, covered-within)

  -- no range is empty
  pub width_some : (i : ℕ) → 1 ≤ width_of d nsub i
  width_some i = let s = short-some in by_width d nsub i (λ h e. omega arith) (λ h e. omega arith)

  -- none is longer than D
  pub width-within : (i : ℕ) → width_of d nsub i ≤ d
  width-within i =
      by_width d nsub i
      (λ h e. omega (arith, begin-next d nsub i, begin-within (suc i) (omega (arith, long-few))))
      (λ h e. omega (arith, div-le_self d nsub))

  -- so none is longer than 256
  pub width-most : (i : ℕ) → width_of d nsub i ≤ 256
  width-most i = omega (arith, width-within i, (range-bounds d nsub good).d-most)

-- ---- places of the fixed list

-- place i holds a range
pub record Used (d nsub i : ℕ) : Type 0 where
  pub good : bad_range d nsub ≡ false
  pub below : i < nsub

module _ (d nsub i : ℕ) where
  pub used-of : i < ranges_used d nsub → Used d nsub i
  used-of h = go (bad_range d nsub) refl h
    where
      go : (b : Bool) → bad_range d nsub ≡ b → i < cond b 0 nsub → Used d nsub i
      go true e h = absurd (omega arith)
      go false e h = record { good = e; below = h }

  pub pair-used : Used d nsub i → pair_at d nsub i ≡ begin_of d nsub i ∷ end_of d nsub i ∷ []
  pair-used u = rw (u.good, lt-ltb i nsub u.below)

  pub pair-unused : ranges_used d nsub ≤ i → pair_at d nsub i ≡ 0 ∷ 0 ∷ []
  pair-unused h = rw (le-ltb i (ranges_used d nsub) h)
