-- Two outcomes that the promise of a stretch allows are equal.
use Rattle.std.proofs.Common.{◌≡◌, ℕ, Bool, List, sym, ◌∙◌, ap}
use Rattle.std.specs.Prelude.{Result, Float}
use Rattle.answers.specs.declared.Refusal.{Refusal}
use Rattle.neighbor.specs.declared.Candidate.{Candidate}
use Rattle.neighbor.specs.Gathered.{batch_of, Runs, runs}
use Rattle.cell_stretch.specs.declared.Went.{Went}
use Rattle.cell_stretch.specs.StretchInner.{after_stretch, Visited}

pub visited-once : (f : ℕ → Float) (v : ℕ → Bool) (g : ℕ → ℕ) (from to : ℕ) (s : Runs) (rows rows' : List ℕ) (sums sums' : List Float) (batch batch' : List Candidate) (r r' : Result Went Refusal)
    → Visited f v g from to s rows sums batch r → Visited f v g from to s rows' sums' batch' r' → (r ≡ r') × (rows ≡ rows') × (sums ≡ sums') × (batch ≡ batch')
visited-once f v g from to s rows rows' sums sums' batch batch' r r' p q =
    let n = after_stretch f v g from to s in
    let e : runs rows sums n.found (batch_of batch n.batch.waiting) ≡ runs rows' sums' n.found (batch_of batch' n.batch.waiting) = p.runs-are ∙ sym q.runs-are in
    (p.answer ∙ sym q.answer, ap (λ (u : Runs). u.rows) e, ap (λ (u : Runs). u.sums) e, ap (λ (u : Runs). u.batch.held) e)
