-- Two outcomes that the promise of a table allows are equal.
use Rattle.std.proofs.Common.{◌≡◌, ℕ, sym, ◌∙◌}
use Rattle.std.specs.Prelude.{List, Float}
use Rattle.answers.specs.Answers.{Checked}
use Rattle.pq_params.specs.declared.Shape.{Shape}
use Rattle.cell_table.specs.TablesInner.{Tabled}

pub tabled-once : (f : ℕ → ℕ → Float) (z : Shape) (out out' : List Float) (r r' : Checked) → Tabled f z out r → Tabled f z out' r' → (r ≡ r') × (out ≡ out')
tabled-once f z out out' r r' p q = (p.answer ∙ sym q.answer, p.entries ∙ sym q.entries)
