-- Laws on numbers that rise, and on numbers that never fall.
use Prim.Native.Nat.{ℕ, zero, suc, ◌-◌, ◌≤◌, ◌<◌}
use mathlib.Core.Path.{◌≡◌}
use mathlib.Core.Bool.{Bool, true, false, cond}
use mathlib.Core.List.{List, [], ◌∷◌}
use native.Mathlib.Omega.{arith}
use lib.ListN.{length, get_or}
use Rattle.lists.specs.Tests.{keep, rising}
use Rattle.lists.proofs.Tables.{last_or}
use Rattle.lists.proofs.Tests.{every-below, below-every}

-- ---- each element is below the next

module _ (l : List ℕ) where
  pub rising-true : rising l ≡ true → (i : ℕ) → suc i < length l → get_or l i 0 < get_or l (suc i) 0
  unfolding rising
  rising-true e i h = every-below (λ (i : ℕ). get_or l i 0) (λ (i : ℕ). get_or l (suc i) 0) (length l - 1) e i (omega arith)

  pub rising-of : ((i : ℕ) → suc i < length l → get_or l i 0 < get_or l (suc i) 0) → rising l ≡ true
  unfolding rising
  rising-of r = below-every (λ (i : ℕ). get_or l i 0) (λ (i : ℕ). get_or l (suc i) 0) (length l - 1) (λ i h. r i (omega arith))

-- ---- and the first is at least b

-- the elements rise from b on, each below the next
abbrev pub Rises : ℕ → List ℕ → Type 0
Rises b [] = Unit {0}
Rises b (x ∷ l) = (b ≤ x) × Rises (suc x) l

pub rises-of : (l : List ℕ) (b : ℕ) → (0 < length l → b ≤ get_or l 0 0) → ((i : ℕ) → suc i < length l → get_or l i 0 < get_or l (suc i) 0) → Rises b l
rises-of [] b h r = tt
rises-of (x ∷ l) b h r = (h (omega arith), rises-of l (suc x) (λ k. r 0 (omega arith)) (λ i k. r (suc i) (omega arith)))

-- so none is below b
pub rises-at : (l : List ℕ) (b p : ℕ) → Rises b l → p < length l → b ≤ get_or l p 0
rises-at [] b p r h = absurd (omega arith)
rises-at (x ∷ l) b zero r h = r.0
rises-at (x ∷ l) b (suc p) r h = omega (arith, rises-at l (suc x) p r.1 (omega arith))

rises-lower : (l : List ℕ) (b c : ℕ) → c ≤ b → Rises b l → Rises c l
rises-lower [] b c h r = tt
rises-lower (x ∷ l) b c h r = (omega arith, r.1)

-- the elements at which f holds rise too
pub rises-keep : (f : ℕ → Bool) (l : List ℕ) (b : ℕ) → Rises b l → Rises b (keep f l)
unfolding keep
rises-keep f [] b r = tt
rises-keep f (x ∷ l) b r = go (f x) (rises-keep f l (suc x) r.1)
  where
    go : (t : Bool) → Rises (suc x) (keep f l) → Rises b (cond t (x ∷ keep f l) (keep f l))
    go true q = (r.0, q)
    go false q = rises-lower (keep f l) (suc x) b (omega arith) q

-- ---- none is above the next

module _ (f : ℕ → ℕ) (n : ℕ) (u : (i : ℕ) → i < n → f i ≤ f (suc i)) where
  -- so none is above a later one
  pub never-falls : (i j : ℕ) → i ≤ j → j ≤ n → f i ≤ f j
  never-falls i zero h k = let e : i ≡ 0 = omega arith in rw e (omega arith)
  never-falls i (suc j) h k =
      last_or i (suc j) (omega arith) (λ e. rw e (omega arith))
      (λ l. omega (arith, never-falls i j (omega arith) (omega arith), u j (omega arith)))
