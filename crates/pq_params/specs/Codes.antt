-- Codes: n·n_sub bytes, by row number.
use Rattle.std.specs.Prelude.{ℕ, ◌+◌, ◌*◌, List, Bool, get_or, ltb}
use Rattle.lists.specs.Tests.{every}
use Rattle.pq_params.specs.declared.Shape.{Shape}
use Rattle.pq_params.specs.Bounds.{centers_of}

-- the code of row m in sub-space s
abbrev pub code_at : List ℕ → ℕ → ℕ → ℕ → ℕ
code_at codes nsub m s = get_or codes (m * nsub + s) 0

-- whether the codes of row m are below K
abbrev pub codes_below : List ℕ → Shape → ℕ → Bool
codes_below codes z m = every (λ (s : ℕ). ltb (code_at codes z.nsub m s) (centers_of z.bits)) z.nsub
