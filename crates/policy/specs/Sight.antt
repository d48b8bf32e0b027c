-- The visible rows, and codes that are equal at them.
use Rattle.std.specs.Prelude.{ℕ, ◌<◌, ◌≡◌, List, true}
use Rattle.pq_params.specs.Codes.{code_at}
use Rattle.cell_codes.specs.Codes.{visible}

-- row m, one of n, is visible
pub record InSight (n : ℕ) (mask : List ℕ) (m : ℕ) : Type 0 where
  pub there : m < n
  pub shown : visible mask m ≡ true

-- a visible row has the same codes in k as in l
abbrev pub CodesAlike : ℕ → List ℕ → ℕ → List ℕ → List ℕ → Type 0
CodesAlike n mask nsub k l = (m s : ℕ) → InSight n mask m → s < nsub → code_at k nsub m s ≡ code_at l nsub m s
