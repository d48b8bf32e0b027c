-- Laws on the shown ones of the rows g 0, .., g (n - 1), which are all rows of an index or those of a list: how many they are, and what holds of all of them.
use Rattle.std.proofs.Common.{MatchBool}
use Rattle.std.specs.List.{HoldsAt, AllWithin, range_with_len}
use Rattle.std.proofs.lemmas.List.FromFn.{length-range_with_len, get_or-range_with_len}
use native.Mathlib.Nat.{zero-add}
use Prim.Native.Nat.{ℕ, zero, suc, ◌≤◌, ◌<◌}
use mathlib.Core.Path.{◌≡◌, refl, sym, ◌∙◌, ap, ap₂}
use mathlib.Core.Bool.{Bool, true, false, not, ◌&&◌, true≢false}
use mathlib.Core.List.{List, [], ◌∷◌, ◌++◌, append_assoc, append-nil}
use native.Mathlib.Numerals.{add-one}
use native.Mathlib.Omega.{arith}
use borrow.Author.Tests.{ne_eqb, eq-eqb}
use lib.ListN.{length, get_or, length-append, get_or-append}
use lib.Seq.{get_or_at}
use lib.Dec.{eqb}
use Rattle.lists.specs.Lists.{tab}
use Rattle.lists.specs.Tests.{every, keep}
use Rattle.lists.proofs.Tables.{last_or}
use Rattle.lists.proofs.Tests.{every-ext, every_of, every_true, keep-yes, keep-no}
use Rattle.cell_codes.specs.Codes.{of_all}
use Rattle.cell_codes.specs.CodesInner.{unless}

-- of a list and one row more
pub all_more : (f : ℕ → Bool) (xs : List ℕ) (x : ℕ) → of_all f (xs ++ (x ∷ [])) ≡ (of_all f xs && f x)
unfolding every
all_more f xs x =
    rw (length-append xs (x ∷ []), add-one (length xs))
    (ap₂ ◌&&◌ (every-ext _ _ (length xs) (λ i k. ap f (get_or-append xs (x ∷ []) 0 i k))) (ap f (get_or_at xs x [] 0 (length xs) refl)))

pub and-true : (a : Bool) → a ≡ (a && true)
and-true true = refl
and-true false = refl

and_assoc : (a b c : Bool) → ((a && b) && c) ≡ (a && (b && c))
and_assoc true b c = refl
and_assoc false b c = refl

-- of two lists, one after the other
pub all_join : (f : ℕ → Bool) (xs ys : List ℕ) → of_all f (xs ++ ys) ≡ (of_all f xs && of_all f ys)
unfolding every
all_join f xs [] = ap (of_all f) (append-nil xs) ∙ and-true (of_all f xs)
all_join f xs (y ∷ ys) =
    ap (of_all f) (sym (append_assoc xs (y ∷ []) ys))
    ∙ all_join f (xs ++ (y ∷ [])) ys
    ∙ ap (λ (b : Bool). b && of_all f ys) (all_more f xs y)
    ∙ and_assoc (of_all f xs) (f y) (of_all f ys)
    ∙ ap (λ (b : Bool). of_all f xs && b) (sym (all_join f (y ∷ []) ys))

module _ (v : ℕ → Bool) (g : ℕ → ℕ) where
  -- by the last row: it is shown, or it is not
  by_last {ℓ} : (B : List ℕ → Type ℓ) (n : ℕ) → (v (g n) ≡ true → B (keep v (tab g n) ++ (g n ∷ []))) → (v (g n) ≡ false → B (keep v (tab g n))) → B (keep v (tab g (suc n)))
  unfolding tab
  by_last B n with_it without = go (v (g n)) refl
    where
      go : (b : Bool) → v (g n) ≡ b → B (keep v (tab g n ++ (g n ∷ [])))
      go true e = rw (keep-yes v (tab g n) (g n) e) (with_it e)
      go false e = rw (keep-no v (tab g n) (g n) e) (without e)

  -- no more are shown than there are
  pub few-kept : (n : ℕ) → length (keep v (tab g n)) ≤ n
  unfolding tab keep
  few-kept zero = omega arith
  few-kept (suc n) =
      by_last (λ l. length l ≤ suc n) n
      (λ e. omega (arith, few-kept n, length-append (keep v (tab g n)) (g n ∷ [])))
      (λ e. omega (arith, few-kept n))

  none_kept : (n : ℕ) → ((i : ℕ) → i < n → v (g i) ≡ false) → length (keep v (tab g n)) ≡ 0
  unfolding tab keep
  none_kept zero h = refl
  none_kept (suc n) h =
      by_last (λ l. length l ≡ 0) n
      (λ e. absurd (true≢false (sym e ∙ h n (omega arith))))
      (λ e. none_kept n (λ i k. h i (omega arith)))

  one_kept : (n i : ℕ) → i < n → v (g i) ≡ true → 0 < length (keep v (tab g n))
  one_kept zero i h e = absurd (omega arith)
  one_kept (suc n) i h e =
      by_last (λ l. 0 < length l) n
      (λ d. omega (arith, length-append (keep v (tab g n)) (g n ∷ [])))
      (λ d. last_or i n h (λ p. absurd (true≢false (sym (rw p at e) ∙ d))) (λ k. one_kept n i k e))

  -- no row is shown; one is
  pub shown-none : (n : ℕ) → ((i : ℕ) → i < n → v (g i) ≡ false) → false ≡ not (eqb (length (keep v (tab g n))) 0)
  shown-none n h = rw (eq-eqb _ 0 (none_kept n h))

  pub shown-some : (n i : ℕ) → i < n → v (g i) ≡ true → true ≡ not (eqb (length (keep v (tab g n))) 0)
  shown-some n i h e = let k = one_kept n i h e in rw (ne_eqb (length (keep v (tab g n))) 0 (λ z. omega arith))

  -- one is shown, or all are hidden
  pub any-shown : (n : ℕ) (r : Bool) → MatchBool r ((k : ℕ) × (k < length (range_with_len 0 n)) × HoldsAt (λ (k : ℕ). v (g k) ≡ true) (range_with_len 0 n) k) (AllWithin (λ (k : ℕ). v (g k) ≡ false) (range_with_len 0 n) 0 (length (range_with_len 0 n)))
      → r ≡ not (eqb (length (keep v (tab g n))) 0)
  any-shown n true w =
      let h : w.0 < n = omega (arith, w.1, length-range_with_len 0 n) in
      shown-some n w.0 h (rw (get_or-range_with_len 0 n w.0 0 h, zero-add) at (w.2 0))
  any-shown n false w =
      shown-none n (λ i h. rw (get_or-range_with_len 0 n i 0 h, zero-add) at (w i 0 (omega arith) (omega (arith, length-range_with_len 0 n))))

  -- what holds of the shown ones of the rows holds of each that is kept
  pub kept-all : (P : ℕ → Type 0) (n : ℕ) → ((k : ℕ) → k < n → v (g k) ≡ true → P (g k)) → (i : ℕ) → i < length (keep v (tab g n)) → P (get_or (keep v (tab g n)) i 0)
  unfolding tab keep
  kept-all P zero h i = λ l. absurd (omega arith)
  kept-all P (suc n) h i =
      by_last (λ l. i < length l → P (get_or l i 0)) n
      (λ d l.
      let xs = keep v (tab g n) in
      last_or i (length xs) (omega (arith, length-append xs (g n ∷ []), l))
      (λ q. rw (q, get_or_at xs (g n) [] 0 (length xs) refl) (h n (omega arith) d))
      (λ q. rw (get_or-append xs (g n ∷ []) 0 i q) (kept-all P n (λ j q. h j (omega arith)) i q)))
      (λ d l. kept-all P n (λ j q. h j (omega arith)) i l)

  -- a test of every row that the hidden ones pass is a test of the shown ones
  pub unless-kept : (f : ℕ → Bool) (n : ℕ) → every (λ (i : ℕ). unless v f (g i)) n ≡ of_all f (keep v (tab g n))
  unfolding every tab keep
  unless-kept f zero = refl
  unless-kept f (suc n) =
      by_last (λ l. (every (λ (i : ℕ). unless v f (g i)) n && unless v f (g n)) ≡ of_all f l) n
      (λ e. rw (all_more f (keep v (tab g n)) (g n), e, unless-kept f n))
      (λ e. rw e (sym (and-true _) ∙ unless-kept f n))

  -- one that fails among the first m fails among more
  pub still-broken : (f : ℕ → Bool) (m n : ℕ) → m ≤ n → of_all f (keep v (tab g m)) ≡ false → of_all f (keep v (tab g n)) ≡ false
  still-broken f m n h e = go (of_all f (keep v (tab g n))) refl
    where
      t : ℕ → Bool
      t i = unless v f (g i)

      go : (b : Bool) → of_all f (keep v (tab g n)) ≡ b → b ≡ false
      go false d = refl
      go true d =
          let p : every t n ≡ true = unless-kept f n ∙ d in
          let q : every t m ≡ true = every_of t m (λ i k. every_true t n p i (omega arith)) in
          sym (sym (unless-kept f m) ∙ q) ∙ e
