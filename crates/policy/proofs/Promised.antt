-- Demand 3 as a caller meets it: whatever two searches answer and leave, if it is what the promise says, hidden rows change none of it.
use mathlib.Core.Path.{◌≡◌, sym, ◌∙◌, ap}
use Rattle.cell_walk.specs.Results.{SearchOut}
use Rattle.plain_search.specs.Outcome as Plain
use Rattle.celled_search.specs.Outcome as Celled
use Rattle.policy.specs.Policy.{AlikeInSight}
use Rattle.policy.specs.PlainPolicy.{PlainAlike}
use Rattle.policy.specs.Results.{SameResults}
use Rattle.policy.proofs.Policy.{row-policy}
use Rattle.policy.proofs.PlainPolicy.{plain-row-policy}

-- equal outcomes are equal in all that they report and leave
module _ {o p : SearchOut} (e : o ≡ p) where
  same-results : SameResults o p
  same-results = record {
    answer = ap (λ (t : SearchOut). t.answer) e;
    number = ap (λ (t : SearchOut). t.said.number) e;
    found = ap (λ (t : SearchOut). t.said.found) e;
    scored = ap (λ (t : SearchOut). t.said.scored) e;
    rows = ap (λ (t : SearchOut). t.rows) e;
    sums = ap (λ (t : SearchOut). t.sums) e;
    table = ap (λ (t : SearchOut). t.table) e;
  }

-- o and p are what two searches of equal outcomes answer and leave in the lent buffers
promised : {x y o p : SearchOut} → o ≡ x → p ≡ y → x ≡ y → (o ≡ p) × SameResults o p
promised f g e = let h = f ∙ e ∙ sym g in (h, same-results h)

pub celled-promised : (a b : Celled.SearchIn) (o p : SearchOut) → o ≡ Celled.search_outcome a → p ≡ Celled.search_outcome b → AlikeInSight a b
    → (o ≡ p) × SameResults o p
celled-promised a b o p f g e = promised f g (row-policy a b e)

pub plain-promised : (a b : Plain.SearchIn) (o p : SearchOut) → o ≡ Plain.search_outcome a → p ≡ Plain.search_outcome b → PlainAlike a b
    → (o ≡ p) × SameResults o p
plain-promised a b o p f g e = promised f g (plain-row-policy a b e)
