-- Demand 3 as a C program meets it: hidden rows change nothing of what a search of the face answers and leaves.
use mathlib.Core.Path.{◌≡◌, sym, ◌∙◌, ap}
use Rattle.cell_walk.specs.Results.{SearchOut}
use Rattle.bergrosk.specs.Face.{FacedSearch, faced_search_by, plain_search_faced, celled_search_faced}
use Rattle.plain_search.specs.Outcome as Plain
use Rattle.celled_search.specs.Outcome as Celled
use Rattle.policy.specs.Policy.{AlikeInSight}
use Rattle.policy.specs.PlainPolicy.{PlainAlike}
use Rattle.policy_face.specs.Results.{SameFaced}
use Rattle.policy.proofs.Policy.{row-policy}
use Rattle.policy.proofs.PlainPolicy.{plain-row-policy}

-- equal outcomes are equal in all that they report and leave
module _ {o p : FacedSearch} (e : o ≡ p) where
  same-faced : SameFaced o p
  same-faced = record {
    number = ap (λ (t : FacedSearch). t.said.number) e;
    found = ap (λ (t : FacedSearch). t.said.found) e;
    scored = ap (λ (t : FacedSearch). t.said.scored) e;
    rows = ap (λ (t : FacedSearch). t.rows) e;
    sums = ap (λ (t : FacedSearch). t.sums) e;
    table = ap (λ (t : FacedSearch). t.table) e;
  }

-- o and p are what two searches of equal outcomes answer and leave in the lent buffers, by the face
faced : {x y : SearchOut} {o p : FacedSearch} → o ≡ faced_search_by x → p ≡ faced_search_by y → x ≡ y → (o ≡ p) × SameFaced o p
faced f g e = let h = f ∙ ap faced_search_by e ∙ sym g in (h, same-faced h)

pub celled-faced : (a b : Celled.SearchIn) (o p : FacedSearch) → o ≡ celled_search_faced a → p ≡ celled_search_faced b → AlikeInSight a b
    → (o ≡ p) × SameFaced o p
unfolding celled_search_faced
celled-faced a b o p f g e = faced f g (row-policy a b e)

pub plain-faced : (a b : Plain.SearchIn) (o p : FacedSearch) → o ≡ plain_search_faced a → p ≡ plain_search_faced b → PlainAlike a b
    → (o ≡ p) × SameFaced o p
unfolding plain_search_faced
plain-faced a b o p f g e = faced f g (plain-row-policy a b e)
