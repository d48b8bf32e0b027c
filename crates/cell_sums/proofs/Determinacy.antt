-- Two outcomes that the promise of summed rows allows are equal.
use Rattle.std.proofs.Common.{◌≡◌, ℕ, List, sym, ◌∙◌}
use Rattle.std.specs.Prelude.{Float}
use Rattle.answers.specs.Answers.{Checked}
use Rattle.neighbor.specs.declared.Candidate.{Candidate}
use Rattle.cell_sums.specs.SumsInner.{Summed}

pub summed-once : (f : ℕ → Float) (picked picked₁ picked₂ : List Candidate) (r r' : Checked) → Summed f picked picked₁ r → Summed f picked picked₂ r' → (r ≡ r') × (picked₁ ≡ picked₂)
summed-once f picked picked₁ picked₂ r r' p q = (p.answer ∙ sym q.answer, p.sums-are ∙ sym q.sums-are)
