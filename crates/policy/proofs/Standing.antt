-- Laws on lists of row numbers: which rows stand in one, and two that rise and hold the same rows.
use Prim.Native.Nat.{ℕ, zero, suc, ◌≤◌}
use mathlib.Core.Path.{◌≡◌, refl, sym, ◌∙◌, ap, ap₂}
use mathlib.Core.Bool.{Bool, true, false, cond, true≢false}
use mathlib.Core.List.{List, [], ◌∷◌}
use native.Mathlib.Omega.{arith}
use Rattle.lists.specs.Tests.{keep}
use Rattle.lists.proofs.Rising.{Rises, rises-at, rises-keep}
use Rattle.policy.specs.Check.{HoldsAt, StandsIn}

-- ---- rows that stand in a list

pub in_head : {x m : ℕ} (l : List ℕ) → x ≡ m → StandsIn (x ∷ l) m
in_head l e = (0, record { within = omega arith; held = e })

pub in_tail : (x : ℕ) (l : List ℕ) (m : ℕ) → StandsIn l m → StandsIn (x ∷ l) m
in_tail x l m s = (suc s.0, record { within = omega arith; held = s.1.held })

pub in-cases {ℓ} : {B : Type ℓ} (x : ℕ) (l : List ℕ) (m p : ℕ) → HoldsAt (x ∷ l) m p → (x ≡ m → B) → (StandsIn l m → B) → B
in-cases x l m zero h f g = f h.held
in-cases x l m (suc p) h f g = g (p, record { within = omega arith; held = h.held })

pub not-in-nil : {m p : ℕ} → HoldsAt [] m p → ⊥
not-in-nil h = omega arith

-- ---- lists that rise

pub rises-from : (l : List ℕ) (b m p : ℕ) → Rises b l → HoldsAt l m p → b ≤ m
rises-from l b m p r h = omega (arith, rises-at l b p r h.within)

-- where x ∷ k rises and each of its rows stands in x ∷ l, each row of k stands in l
past_head : (x : ℕ) (k l : List ℕ) → Rises (suc x) k → ((m : ℕ) → StandsIn (x ∷ k) m → StandsIn (x ∷ l) m) → (m : ℕ) → StandsIn k m → StandsIn l m
past_head x k l r f m s =
    let t = f m (in_tail x k m s) in
    in-cases x l m t.0 t.1 (λ p. absurd (omega (arith, rises-from k (suc x) m s.0 r s.1))) (λ u. u)

-- two that rise and hold the same rows are equal
pub same-rising : (k l : List ℕ) (b c : ℕ) → Rises b k → Rises c l
    → ((m : ℕ) → StandsIn k m → StandsIn l m) → ((m : ℕ) → StandsIn l m → StandsIn k m) → k ≡ l
same-rising [] [] b c r q f g = refl
same-rising [] (y ∷ l) b c r q f g = absurd (not-in-nil (g y (in_head l refl)).1)
same-rising (x ∷ k) [] b c r q f g = absurd (not-in-nil (f x (in_head k refl)).1)
same-rising (x ∷ k) (y ∷ l) b c r q f g =
    let y≤x = rises-from (y ∷ l) y x _ (omega arith, q.1) (f x (in_head k refl)).1 in
    let x≤y = rises-from (x ∷ k) x y _ (omega arith, r.1) (g y (in_head l refl)).1 in
    let e : y ≡ x = omega arith in
    ap₂ (λ (z : ℕ) (t : List ℕ). z ∷ t) (sym e)
    (same-rising k l (suc x) (suc y) r.1 q.1 (past_head x k l r.1 (rw e at f)) (past_head x l k (rw e at q.1) (rw e at g)))

-- ---- the elements at which f holds

module _ (f : ℕ → Bool) where
  -- a row stands among the kept ones exactly if it stands in the list and f holds at it
  pub keep-in : (l : List ℕ) (m : ℕ) → f m ≡ true → StandsIn l m → StandsIn (keep f l) m
  unfolding keep
  keep-in [] m e s = absurd (not-in-nil s.1)
  keep-in (x ∷ l) m e s = go (f x) refl (keep-in l m e)
    where
      go : (t : Bool) → f x ≡ t → (StandsIn l m → StandsIn (keep f l) m) → StandsIn (cond t (x ∷ keep f l) (keep f l)) m
      go true p h = in-cases x l m s.0 s.1 (in_head (keep f l)) (λ u. in_tail x (keep f l) m (h u))
      go false p h = in-cases x l m s.0 s.1 (λ q. absurd (true≢false (sym e ∙ ap f (sym q) ∙ p))) h

  pub keep-from : (l : List ℕ) (m : ℕ) → StandsIn (keep f l) m → StandsIn l m × (f m ≡ true)
  unfolding keep
  keep-from [] m s = absurd (not-in-nil s.1)
  keep-from (x ∷ l) m s = go (f x) refl (keep-from l m) s
    where
      go : (t : Bool) → f x ≡ t → (StandsIn (keep f l) m → StandsIn l m × (f m ≡ true))
          → StandsIn (cond t (x ∷ keep f l) (keep f l)) m → StandsIn (x ∷ l) m × (f m ≡ true)
      go true p h u = in-cases x (keep f l) m u.0 u.1
          (λ q. (in_head l q, ap f (sym q) ∙ p))
          (λ v. (in_tail x l m (h v).0, (h v).1))
      go false p h u = (in_tail x l m (h u).0, (h u).1)

  -- two lists that rise, and hold the same rows of those at which f holds
  pub keep_same : (k l : List ℕ) → Rises 0 k → Rises 0 l
      → ((m : ℕ) → f m ≡ true → StandsIn k m → StandsIn l m) → ((m : ℕ) → f m ≡ true → StandsIn l m → StandsIn k m) → keep f k ≡ keep f l
  keep_same k l r q there back = same-rising (keep f k) (keep f l) 0 0 (rises-keep f k 0 r) (rises-keep f l 0 q)
      (λ m s. keep-in l m (keep-from k m s).1 (there m (keep-from k m s).1 (keep-from k m s).0))
      (λ m s. keep-in k m (keep-from l m s).1 (back m (keep-from l m s).1 (keep-from l m s).0))
