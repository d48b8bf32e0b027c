-- Bounds: D 1..256; n_sub 1..64 and at most D; sub_bits 0..8; cells 1..1024; probes 1..cells; epochs 0..1000; rows n 0..100,001; k 0..4,096;
-- draws at most 16,777,216. Each list holds the tests of which none may hold.
use Rattle.std.specs.Prelude.{ℕ, ◌^◌, List, [], ◌∷◌, ◌++◌, Bool, eqb, ltb}
use Rattle.lists.specs.Tests.{any_of}
use Rattle.pq_params.specs.declared.Shape.{Shape}
use Rattle.pq_params.specs.declared.CelledShape.{CelledShape}

-- D and n_sub: what the range rule tests
abbrev pub range_tests : ℕ → ℕ → List Bool
range_tests d nsub = eqb d 0 ∷ ltb 256 d ∷ eqb nsub 0 ∷ ltb 64 nsub ∷ ltb d nsub ∷ []

-- the plain index's numbers: D, n_sub, sub_bits
abbrev pub plain_tests : Shape → List Bool
plain_tests s = range_tests s.d s.nsub ++ (ltb 8 s.bits ∷ [])

-- the celled index's: those, cells and probes
abbrev pub celled_tests : CelledShape → List Bool
celled_tests s = plain_tests s.plain ++ (eqb s.cells 0 ∷ ltb 1024 s.cells ∷ eqb s.probes 0 ∷ ltb s.cells s.probes ∷ [])

-- training's own
abbrev pub epoch_tests : ℕ → List Bool
epoch_tests epochs = ltb 1000 epochs ∷ []

abbrev pub bad_range : ℕ → ℕ → Bool
bad_range d nsub = any_of (range_tests d nsub)

abbrev pub bad_plain : Shape → Bool
bad_plain s = any_of (plain_tests s)

abbrev pub bad_celled : CelledShape → Bool
bad_celled s = any_of (celled_tests s)

abbrev pub bad_epochs : ℕ → Bool
bad_epochs epochs = ltb 1000 epochs

abbrev pub too_many_rows : ℕ → Bool
too_many_rows n = ltb 100_001 n

abbrev pub too_many_draws : ℕ → Bool
too_many_draws draws = ltb 16_777_216 draws

abbrev pub too_much_asked : ℕ → Bool
too_much_asked k = ltb 4_096 k

-- K = 2^sub_bits
abbrev pub centers_of : ℕ → ℕ
centers_of bits = 2 ^ bits
