-- The plain index's numbers where test 1 passes, and products of them that fit.
use Prim.Native.Nat.{ℕ, ◌*◌, ◌^◌, ◌≤◌, ◌<◌}
use mathlib.Core.Path.{◌≡◌}
use mathlib.Core.Bool.{false}
use native.Mathlib.Omega.{arith}
use native.Mathlib.Nat.{mul-le-mul, lt_of_le_of_lt}
use mir.Syntax.{w64}
use mir.Val.{Fits}
use Rattle.pq_params.specs.declared.Shape.{Shape}
use Rattle.pq_params.specs.Bounds.{bad_range, bad_plain, centers_of}
use Rattle.pq_params.specs.Ranges.{covered_of}
use Rattle.pq_params.specs.Lengths.{subs_long, table_long}
use Rattle.pq_params.proofs.Bounds.{plain-bounds, range-bounds, centers-some, centers-most}
use Rattle.pq_params.proofs.RangeRule.{covered-within}

-- a product of two numbers within their bounds fits
pub fits-mul : (a b : ℕ) {m n : ℕ} → a ≤ m → b ≤ n → m * n < 2 ^ 64 → Fits w64 (a * b)
fits-mul a b p q r = record { fits = lt_of_le_of_lt (mul-le-mul p q) r }

-- the plain index's numbers where test 1 passes
pub record Numbers (s : Shape) : Type 0 where
  pub range : bad_range s.d s.nsub ≡ false
  pub d-some : 0 < s.d
  pub d-most : s.d ≤ 256
  pub nsub-some : 0 < s.nsub
  pub nsub-most : s.nsub ≤ 64
  pub bits_most : s.bits ≤ 8
  pub centers-some : 1 ≤ centers_of s.bits
  pub centers-most : centers_of s.bits ≤ 256
  pub covered-within : covered_of s.d s.nsub ≤ s.d
  pub subs-most : subs_long s ≤ 65_536
  pub table-most : table_long s ≤ 16_384

pub numbers : (s : Shape) → bad_plain s ≡ false → Numbers s
numbers s h =
    let p = plain-bounds s h in
    let r = range-bounds s.d s.nsub p.range in
    let k = centers-most s.bits p.bits_most in
    let v = covered-within s.d s.nsub p.range in
    let w : covered_of s.d s.nsub ≤ 256 = omega (arith, r.d-most) in
    record {
      range = p.range;
      d-some = r.d-some;
      d-most = r.d-most;
      nsub-some = r.nsub-some;
      nsub-most = r.nsub-most;
      bits_most = p.bits_most;
      centers-some = centers-some s.bits;
      centers-most = k;
      covered-within = v;
      subs-most = mul-le-mul k w;
      table-most = mul-le-mul r.nsub-most k;
    }
