-- Laws on the rows that are picked of a stretch: one more row.
use Rattle.std.proofs.Common.{◌≡◌, ℕ, ◌+◌, ◌-◌, ◌≤◌, ◌<◌, Bool, true, false, cond, List, [], ◌∷◌, ◌++◌, length, take, set, refl, sym, ◌∙◌, ap, add-one, add-zero, arith}
use mir.Val.{bool_byte}
use lib.Seq.{take-suc-set, take-set-le}
use Rattle.std.proofs.lemmas.List.{map-set}
use Rattle.std.specs.Prelude.{map}
use lib.ListN.{length-map}
use Rattle.lists.specs.Lists.{tab}
use Rattle.lists.specs.Tests.{keep}
use Rattle.lists.proofs.Tests.{keep-yes, keep-no}
use Rattle.neighbor.specs.declared.Candidate.{Candidate}
use Rattle.neighbor.specs.Neighbor.{row_of}
use Rattle.cell_stretch.specs.StretchInner.{onwards, stretch_of}

-- a row counts as 1 where it is shown, and else as 0
pub one-if : (r : ℕ) (b b' : Bool) → r ≡ bool_byte b → b ≡ b' → (r ≡ cond b' 1 0) × (r ≤ 1)
one-if r b true e f = let k : r ≡ 1 = e ∙ rw f in (k, omega arith)
one-if r b false e f = let k : r ≡ 0 = e ∙ rw f in (k, omega arith)

-- nothing is picked yet
pub pick-none : (v : ℕ → Bool) (g : ℕ → ℕ) (from : ℕ) (picked : List Candidate) → stretch_of v g from from ≡ take 0 (map row_of picked)
unfolding tab keep
pick-none v g from picked = let e : from - from ≡ 0 = omega arith in rw e

pick_more : (v : ℕ → Bool) (g : ℕ → ℕ) (i n r m : ℕ) (picked : List ℕ) → n < length picked → m ≡ g i → r ≡ cond (v m) 1 0 → keep v (tab g i) ≡ take n picked
    → keep v (tab g (i + 1)) ≡ take (n + r) (set picked n m)
unfolding tab
pick_more v g i n r m picked h p e f = rw add-one (rw p (go (v (g i)) refl))
  where
    go : (b : Bool) → v (g i) ≡ b → keep v (tab g i ++ (g i ∷ [])) ≡ take (n + r) (set picked n (g i))
    go true d =
        let q : r ≡ 1 = e ∙ rw (p, d) in
        keep-yes v (tab g i) (g i) d ∙ ap (λ (t : List ℕ). t ++ (g i ∷ [])) f ∙ rw (q, add-one) (sym (take-suc-set picked n (g i) h))
    go false d =
        let q : r ≡ 0 = e ∙ rw (p, d) in
        keep-no v (tab g i) (g i) d ∙ f ∙ rw (q, add-zero) (sym (take-set-le n picked n (g i) (omega arith)))

-- one more row is stored, and picked if it is shown
pub pick-step : (v : ℕ → Bool) (g : ℕ → ℕ) (from i n r : ℕ) (c : Candidate) (picked : List Candidate) → from ≤ i → n < length picked → c.row ≡ g i → r ≡ cond (v c.row) 1 0
    → stretch_of v g from i ≡ take n (map row_of picked) → stretch_of v g from (i + 1) ≡ take (n + r) (map row_of (set picked n c))
pick-step v g from i n r c picked k h p e f =
    let a : (i + 1) - from ≡ (i - from) + 1 = omega arith in
    let b : i ≡ from + (i - from) = omega arith in
    rw (a, map-set row_of picked n c)
    (pick_more v (onwards g from) (i - from) n r c.row (map row_of picked) (omega (arith, length-map picked row_of)) (p ∙ ap g b) e f)
