-- What refusal 1's tests say of the numbers where none of them holds.
use Prim.Native.Nat.{ℕ, ◌≤◌, ◌<◌}
use mathlib.Core.Path.{◌≡◌}
use mathlib.Core.Bool.{false}
use native.Mathlib.Omega.{arith}
use borrow.Author.Tests.{ltb-false, eqb-false}
use lib.Pow.{pow_pos, pow_mono}
use Rattle.lists.proofs.Tests.{none}
use Rattle.pq_params.specs.declared.Shape.{Shape}
use Rattle.pq_params.specs.declared.CelledShape.{CelledShape}
use Rattle.pq_params.specs.Bounds.{range_tests, plain_tests, celled_tests, bad_range, bad_plain, bad_celled, centers_of}

pub record RangeBounds (d nsub : ℕ) : Type 0 where
  pub d-some : 0 < d
  pub d-most : d ≤ 256
  pub nsub-some : 0 < nsub
  pub nsub-most : nsub ≤ 64
  pub nsub-fits : nsub ≤ d

pub record PlainBounds (s : Shape) : Type 0 where
  pub range : bad_range s.d s.nsub ≡ false
  pub bits_most : s.bits ≤ 8

pub record CelledBounds (s : CelledShape) : Type 0 where
  pub plain : bad_plain s.plain ≡ false
  pub cells-some : 0 < s.cells
  pub cells-most : s.cells ≤ 1024
  pub probes-some : 0 < s.probes
  pub probes-fit : s.probes ≤ s.cells

pub range-bounds : (d nsub : ℕ) → bad_range d nsub ≡ false → RangeBounds d nsub
range-bounds d nsub h =
    let p = none (range_tests d nsub) h in
    omega (arith, eqb-false d 0 (p 0), ltb-false 256 d (p 1), eqb-false nsub 0 (p 2), ltb-false 64 nsub (p 3), ltb-false d nsub (p 4))

pub plain-bounds : (s : Shape) → bad_plain s ≡ false → PlainBounds s
plain-bounds s h =
    let p = none (plain_tests s) h in
    record { range = rw (p 0, p 1, p 2, p 3, p 4); bits_most = ltb-false 8 s.bits (p 5) }

pub celled-bounds : (s : CelledShape) → bad_celled s ≡ false → CelledBounds s
celled-bounds s h =
    let p = none (celled_tests s) h in
    record {
      plain = rw (p 0, p 1, p 2, p 3, p 4, p 5);
      cells-some = omega (arith, eqb-false s.cells 0 (p 6));
      cells-most = ltb-false 1024 s.cells (p 7);
      probes-some = omega (arith, eqb-false s.probes 0 (p 8));
      probes-fit = ltb-false s.cells s.probes (p 9);
    }

-- K is at least 1 and at most 256
pub centers-some : (bits : ℕ) → 1 ≤ centers_of bits
centers-some bits = pow_pos bits

pub centers-most : (bits : ℕ) → bits ≤ 8 → centers_of bits ≤ 256
centers-most bits h = pow_mono h
