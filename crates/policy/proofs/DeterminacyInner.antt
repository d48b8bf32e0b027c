-- Two outcomes that a record of equations allows are equal: the cells to probe, and filled lists.
use Prim.Native.Nat.{ℕ}
use mathlib.Core.Path.{◌≡◌, sym, ◌∙◌}
use mathlib.Core.List.{List}
use lib.Ieee.{Float}
use Rattle.answers.specs.Answers.{Checked}
use Rattle.pq_params.specs.declared.CelledShape.{CelledShape}
use Rattle.celled_lists.specs.Inner as Lists
use Rattle.celled_fill.specs.FillInner as Fill
use Rattle.celled_probe.specs.ProbeInner.{Probed}

pub probed-determined : (f : ℕ → Float) (cells : ℕ) (out o o' : List ℕ) (r r' : Checked) → Probed f cells out o r → Probed f cells out o' r' → (r ≡ r') × (o ≡ o')
probed-determined f cells out o o' r r' p q = (p.answer ∙ sym q.answer, p.cells_are ∙ sym q.cells_are)

module _ (starts starts' members members' work' work'' : List ℕ) where
  pub lists-determined : (cells n : ℕ) (work : List ℕ) → Lists.Filled cells n work starts members work' → Lists.Filled cells n work starts' members' work''
      → (starts ≡ starts') × (members ≡ members') × (work' ≡ work'')
  lists-determined cells n work p q = (p.started ∙ sym q.started, p.listed ∙ sym q.listed, p.cleared ∙ sym q.cleared)

  pub filled-determined : (s : CelledShape) (n : ℕ) (rows coarse : List Float) (work : List ℕ) → Fill.Filled s n rows coarse work starts members work'
      → Fill.Filled s n rows coarse work starts' members' work'' → (starts ≡ starts') × (members ≡ members') × (work' ≡ work'')
  filled-determined s n rows coarse work p q =
      (p.lists.started ∙ sym q.lists.started, p.lists.listed ∙ sym q.lists.listed, p.cleared ∙ sym q.cleared)
