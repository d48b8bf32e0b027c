-- Laws on how many numbers below n a test holds at: at one at least, at one at most, and at all.
use Prim.Native.Nat.{ℕ, zero, suc, ◌+◌, ◌≤◌, ◌<◌}
use mathlib.Core.Path.{◌≡◌, refl, sym, ◌∙◌, ap}
use mathlib.Core.Bool.{Bool, true, false}
use native.Mathlib.Decide.{dec_lt}
use native.Mathlib.Omega.{arith}
use borrow.Author.Tests.{ltb-true, lt-ltb, le-ltb, eq-eqb, ne_eqb}
use lib.Dec.{ltb, eqb}
use Rattle.lists.specs.Tests.{count}
use Rattle.lists.proofs.Tables.{last_or}
use Rattle.lists.proofs.Tests.{count-zero, count_yes, count_no, count-le}

module _ (f : ℕ → Bool) where
  count-more : (n : ℕ) → count f n ≤ count f (suc n)
  count-more n = go (f n) refl
    where
      go : (t : Bool) → f n ≡ t → count f n ≤ count f (suc n)
      go true e = omega (arith, count_yes f n e)
      go false e = omega (arith, count_no f n e)

  -- one at which f holds is counted
  pub counted : (n p : ℕ) → p < n → f p ≡ true → 0 < count f n
  counted zero p h e = absurd (omega arith)
  counted (suc n) p h e = last_or p n h
      (λ q. omega (arith, count_yes f n (ap f (sym q) ∙ e)))
      (λ k. omega (arith, count-more n, counted n p k e))

  -- what is counted holds somewhere
  pub count-found : (n : ℕ) → 0 < count f n → (p : ℕ) × (p < n) × (f p ≡ true)
  count-found zero h = absurd (omega (arith, count-zero f))
  count-found (suc n) h = go (f n) refl (count-found n)
    where
      go : (t : Bool) → f n ≡ t → (0 < count f n → (p : ℕ) × (p < n) × (f p ≡ true)) → (p : ℕ) × (p < suc n) × (f p ≡ true)
      go true e g = (n, omega arith, e)
      go false e g =
          let s = g (omega (arith, count_no f n e)) in
          (s.0, omega arith, s.2)

  -- counted once at most: no two places
  pub count-once : (n : ℕ) → count f n ≤ 1 → (p q : ℕ) → p < n → q < n → f p ≡ true → f q ≡ true → p ≡ q
  count-once zero h p q k l e g = absurd (omega arith)
  count-once (suc n) h p q k l e g = last_or p n k
      (λ x. last_or q n l
      (λ y. x ∙ sym y)
      (λ y. absurd (omega (arith, counted n q y g, count_yes f n (ap f (sym x) ∙ e)))))
      (λ x. last_or q n l
      (λ y. absurd (omega (arith, counted n p x e, count_yes f n (ap f (sym y) ∙ g))))
      (λ y. count-once n (omega (arith, count-more n)) p q x y e g))

  pub once-count : (n : ℕ) → ((p q : ℕ) → p < n → q < n → f p ≡ true → f q ≡ true → p ≡ q) → count f n ≤ 1
  once-count zero u = omega (arith, count-zero f)
  once-count (suc n) u = go (f n) refl (once-count n (λ p q k l. u p q (omega arith) (omega arith)))
    where
      none : f n ≡ true → (k : ℕ) → k ≡ count f n → k ≡ 0
      none e zero h = refl
      none e (suc k) h =
          let s = count-found n (omega arith) in
          absurd (omega (arith, u s.0 n (omega arith) (omega arith) s.2 e))

      go : (t : Bool) → f n ≡ t → count f n ≤ 1 → count f (suc n) ≤ 1
      go true e h = omega (arith, count_yes f n e, none e (count f n) refl)
      go false e h = omega (arith, count_no f n e)

  pub count-full : (n : ℕ) → count f n ≡ n → (p : ℕ) → p < n → f p ≡ true
  count-full zero h p k = absurd (omega arith)
  count-full (suc n) h p k = go (f n) refl (λ e. count-full n e p)
    where
      go : (t : Bool) → f n ≡ t → (count f n ≡ n → p < n → f p ≡ true) → f p ≡ true
      go true e g = last_or p n k (λ q. ap f q ∙ e) (g (omega (arith, count_yes f n e)))
      go false e g = absurd (omega (arith, count_no f n e, count-le f n))

  -- f holds everywhere, or nowhere
  pub count-all : (n : ℕ) → ((p : ℕ) → p < n → f p ≡ true) → count f n ≡ n
  count-all zero u = count-zero f
  count-all (suc n) u = count_yes f n (u n (omega arith)) ∙ ap suc (count-all n (λ p h. u p (omega arith)))

  pub count_none : (n : ℕ) → ((p : ℕ) → f p ≡ false) → count f n ≡ 0
  count_none zero u = count-zero f
  count_none (suc n) u = count_no f n (u n) ∙ count_none n u

-- ---- of n numbers, those below k

abbrev pub under : (ℕ → ℕ) → ℕ → ℕ → Bool
under g k p = ltb (g p) k

abbrev pub met : (ℕ → ℕ) → ℕ → ℕ → Bool
met g k p = eqb (g p) k

module _ (g : ℕ → ℕ) where
  -- the numbers below k + 1 are those below k and those that are k
  pub count-split : (k n : ℕ) → count (under g (suc k)) n ≡ count (under g k) n + count (met g k) n
  count-split k zero = omega (arith, count-zero (under g (suc k)), count-zero (under g k), count-zero (met g k))
  count-split k (suc n) = go (count-split k n)
    where
      go : count (under g (suc k)) n ≡ count (under g k) n + count (met g k) n → count (under g (suc k)) (suc n) ≡ count (under g k) (suc n) + count (met g k) (suc n)
      go e = elim (dec_lt (g n) k) [
        | yes h ↦
            let a = count_yes (under g (suc k)) n (lt-ltb (g n) (suc k) (omega arith)) in
            let b = count_yes (under g k) n (lt-ltb (g n) k h) in
            let c = count_no (met g k) n (ne_eqb (g n) k (omega arith)) in
            omega arith
        | no h ↦
            let b = count_no (under g k) n (le-ltb (g n) k (omega arith)) in
            elim (dec_lt k (g n)) [
              | yes l ↦
                  let a = count_no (under g (suc k)) n (le-ltb (g n) (suc k) (omega arith)) in
                  let c = count_no (met g k) n (ne_eqb (g n) k (omega arith)) in
                  omega arith
              | no l ↦
                  let a = count_yes (under g (suc k)) n (lt-ltb (g n) (suc k) (omega arith)) in
                  let c = count_yes (met g k) n (eq-eqb (g n) k (omega arith)) in
                  omega arith
            ]
      ]

  none-below-zero : (n k : ℕ) → k ≡ count (under g 0) n → k ≡ 0
  none-below-zero n zero h = refl
  none-below-zero n (suc k) h = let s = count-found (under g 0) n (omega arith) in absurd (omega (arith, ltb-true (g s.0) 0 s.2))

  -- where each number below k is met once, k of them are below k
  pub count-below : (n k : ℕ) → ((m : ℕ) → m < k → count (met g m) n ≡ 1) → count (under g k) n ≡ k
  count-below n zero u = none-below-zero n _ refl
  count-below n (suc k) u = omega (arith, count-split k n, u k (omega arith), count-below n k (λ m h. u m (omega arith)))
