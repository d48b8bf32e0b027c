-- Laws on tests over the numbers below n, and over lists of numbers.
use Prim.Native.Nat.{ℕ, zero, suc, ◌≤◌, ◌<◌}
use mathlib.Core.Path.{◌≡◌, refl, sym, ◌∙◌, ap, ap₂}
use mathlib.Core.Bool.{Bool, true, false, cond, ◌&&◌, ◌||◌, and-false, true≢false, false≢true}
use mathlib.Core.List.{List, [], ◌∷◌, ◌++◌, append-nil}
use native.Mathlib.Decide.{dec_lt}
use native.Mathlib.Omega.{arith}
use borrow.Author.Tests.{lt-ltb, le-ltb, ltb-true}
use lib.ListN.{get_or}
use lib.Dec.{ltb}
use Rattle.lists.specs.Tests.{any_from, any_of, every, first, count, keep}
use Rattle.lists.proofs.Tables.{last_or}

-- ---- tests joined by `|`

pub or_l : (a b : Bool) → (a || b) ≡ false → a ≡ false
or_l true b h = h
or_l false b h = refl

pub or_r : (a b : Bool) → (a || b) ≡ false → b ≡ false
or_r true b h = absurd (true≢false h)
or_r false b h = h

none_first : (a : Bool) (bs : List Bool) → any_from a bs ≡ false → a ≡ false
none_first a [] h = h
none_first a (b ∷ bs) h = or_l a b (none_first (a || b) bs h)

-- where none of the tests holds, the one at j does not
none_from : (a : Bool) (bs : List Bool) → any_from a bs ≡ false → (j : ℕ) → get_or bs j false ≡ false
none_from a [] h j = refl
none_from a (b ∷ bs) h zero = or_r a b (none_first (a || b) bs h)
none_from a (b ∷ bs) h (suc j) = none_from (a || b) bs h j

-- tests in two lists, and one test before the others
any_append : (a : Bool) (bs cs : List Bool) → any_from a (bs ++ cs) ≡ any_from (any_from a bs) cs
any_append a [] cs = refl
any_append a (b ∷ bs) cs = any_append (a || b) bs cs

pub none_left : (bs cs : List Bool) → any_of (bs ++ cs) ≡ false → any_of bs ≡ false
none_left bs cs h = none_first (any_of bs) cs (sym (any_append false bs cs) ∙ h)

any-true : (bs : List Bool) → any_from true bs ≡ true
any-true [] = refl
any-true (b ∷ bs) = any-true bs

pub any-cons : (a : Bool) (bs : List Bool) → (a || any_of bs) ≡ any_of (a ∷ bs)
any-cons true bs = sym (any-true bs)
any-cons false bs = refl

pub none : (bs : List Bool) → any_of bs ≡ false → (j : ℕ) → get_or bs j false ≡ false
none bs h = none_from false bs h

-- ---- both tests

pub and_l : (a b : Bool) → (a && b) ≡ true → a ≡ true
and_l true b h = refl
and_l false b h = h

pub and_r : (a b : Bool) → (a && b) ≡ true → b ≡ true
and_r true b h = h
and_r false b h = absurd (false≢true h)

pub and_both : {a b : Bool} → a ≡ true → b ≡ true → (a && b) ≡ true
and_both p q = rw (p, q)

-- ---- every

pub every_true : (f : ℕ → Bool) (n : ℕ) → every f n ≡ true → (i : ℕ) → i < n → f i ≡ true
unfolding every
every_true f zero h i k = absurd (omega arith)
every_true f (suc n) h i k =
    last_or i n k (λ e. rw e (and_r (every f n) (f n) h)) (every_true f n (and_l (every f n) (f n) h) i)

pub every_of : (f : ℕ → Bool) (n : ℕ) → ((i : ℕ) → i < n → f i ≡ true) → every f n ≡ true
unfolding every
every_of f zero h = refl
every_of f (suc n) h = and_both (every_of f n (λ i k. h i (omega arith))) (h n (omega arith))

-- every f i is below g i
module _ (f g : ℕ → ℕ) (n : ℕ) where
  pub every-below : every (λ (i : ℕ). ltb (f i) (g i)) n ≡ true → (i : ℕ) → i < n → f i < g i
  every-below e i h = ltb-true (f i) (g i) (every_true (λ (i : ℕ). ltb (f i) (g i)) n e i h)

  pub below-every : ((i : ℕ) → i < n → f i < g i) → every (λ (i : ℕ). ltb (f i) (g i)) n ≡ true
  below-every h = every_of (λ (i : ℕ). ltb (f i) (g i)) n (λ i k. lt-ltb (f i) (g i) (h i k))

pub every-ext : (f g : ℕ → Bool) (n : ℕ) → ((i : ℕ) → i < n → f i ≡ g i) → every f n ≡ every g n
unfolding every
every-ext f g zero e = refl
every-ext f g (suc n) e = ap₂ ◌&&◌ (every-ext f g n (λ i k. e i (omega arith))) (e n (omega arith))

-- one at which f fails
pub every-false : (f : ℕ → Bool) (n i : ℕ) → i < n → f i ≡ false → every f n ≡ false
unfolding every
every-false f zero i k e = absurd (omega arith)
every-false f (suc n) i k e =
    last_or i n k (λ p. rw (ap f (sym p) ∙ e) (and-false (every f n))) (λ l. rw (every-false f n i l e))

-- ---- first

first-case : (b : Bool) (i n : ℕ) (f : ℕ → Bool) → i ≤ n → b ≡ ltb i n → cond b i (cond (f n) n (suc n)) ≤ suc n
first-case true i n f h e = omega arith
first-case false i n f h e = go (f n)
  where
    go : (c : Bool) → cond c n (suc n) ≤ suc n
    go true = omega arith
    go false = omega arith

pub first-le : (f : ℕ → Bool) (n : ℕ) → first f n ≤ n
unfolding first
first-le f zero = omega arith
first-le f (suc n) = first-case (ltb (first f n) n) (first f n) n f (first-le f n) refl

-- one that is found below n is found below n + 1, and else n is tried
first-kept : (f : ℕ → Bool) (n : ℕ) → first f n < n → first f (suc n) ≡ first f n
unfolding first
first-kept f n h = rw (lt-ltb (first f n) n h)

first-tried : (f : ℕ → Bool) (n : ℕ) → n ≤ first f n → first f (suc n) ≡ cond (f n) n (suc n)
unfolding first
first-tried f n h = rw (le-ltb (first f n) n h)

-- f holds at the one that is found
first-tried-hit : (f : ℕ → Bool) (n : ℕ) → n ≤ first f n → (b : Bool) → f n ≡ b → first f (suc n) < suc n → f (first f (suc n)) ≡ true
first-tried-hit f n k true e h = rw (first-tried f n k, e) e
first-tried-hit f n k false e h =
    let l : first f (suc n) ≡ suc n = rw (first-tried f n k, e) in
    absurd (omega arith)

pub first-hit : (f : ℕ → Bool) (n : ℕ) → first f n < n → f (first f n) ≡ true
first-hit f zero h = absurd (omega arith)
first-hit f (suc n) h = elim (dec_lt (first f n) n) [
  | yes k ↦ rw (first-kept f n k) (first-hit f n k)
  | no k ↦ first-tried-hit f n (omega arith) (f n) refl h
]

-- and at none below it
first-tried-below : (f : ℕ → Bool) (n i : ℕ) → n ≤ first f n → (b : Bool) → f n ≡ b → i < first f (suc n) → (i < n → f i ≡ false) → f i ≡ false
first-tried-below f n i k true e h g =
    let l : first f (suc n) ≡ n = rw (first-tried f n k, e) in
    g (omega arith)
first-tried-below f n i k false e h g =
    let l : first f (suc n) ≡ suc n = rw (first-tried f n k, e) in
    last_or i n (omega arith) (λ p. rw p e) g

pub first_below : (f : ℕ → Bool) (n i : ℕ) → i < first f n → f i ≡ false
first_below f zero i h = absurd (omega (arith, first-le f zero))
first_below f (suc n) i h = elim (dec_lt (first f n) n) [
  | yes k ↦ first_below f n i (omega (arith, first-kept f n k))
  | no k ↦ first-tried-below f n i (omega arith) (f n) refl h (λ l. first_below f n i (omega arith))
]

-- the one that is found is the only one so
pub first-is : (f : ℕ → Bool) (n i : ℕ) → i < n → f i ≡ true → ((j : ℕ) → j < i → f j ≡ false) → first f n ≡ i
first-is f n i h e l = elim (dec_lt (first f n) i) [
  | yes k ↦ absurd (true≢false (sym (first-hit f n (omega arith)) ∙ l (first f n) k))
  | no k ↦ elim (dec_lt i (first f n)) [
    | yes m ↦ absurd (true≢false (sym e ∙ first_below f n i m))
    | no m ↦ omega arith
  ]
]

pub first-none : (f : ℕ → Bool) (n : ℕ) → ((j : ℕ) → j < n → f j ≡ false) → first f n ≡ n
first-none f n l = elim (dec_lt (first f n) n) [
  | yes k ↦ absurd (true≢false (sym (first-hit f n k) ∙ l (first f n) k))
  | no k ↦ omega (arith, first-le f n)
]

pub first-ext : (f g : ℕ → Bool) (n : ℕ) → ((i : ℕ) → i < n → f i ≡ g i) → first f n ≡ first g n
unfolding first
first-ext f g zero e = refl
first-ext f g (suc n) e = rw (first-ext f g n (λ i k. e i (omega arith)), e n (omega arith))

-- ---- count

pub count-zero : (f : ℕ → Bool) → count f zero ≡ 0
unfolding count
count-zero f = refl

pub count_yes : (f : ℕ → Bool) (n : ℕ) → f n ≡ true → count f (suc n) ≡ suc (count f n)
unfolding count
count_yes f n e = rw e

pub count_no : (f : ℕ → Bool) (n : ℕ) → f n ≡ false → count f (suc n) ≡ count f n
unfolding count
count_no f n e = rw e

pub count-ext : (f g : ℕ → Bool) (n : ℕ) → ((i : ℕ) → i < n → f i ≡ g i) → count f n ≡ count g n
unfolding count
count-ext f g zero e = refl
count-ext f g (suc n) e = rw (count-ext f g n (λ i k. e i (omega arith)), e n (omega arith))

pub count-le : (f : ℕ → Bool) (n : ℕ) → count f n ≤ n
count-le f zero = omega (arith, count-zero f)
count-le f (suc n) = go (f n) refl (count-le f n)
  where
    go : (b : Bool) → f n ≡ b → count f n ≤ n → count f (suc n) ≤ suc n
    go true e h = omega (arith, count_yes f n e)
    go false e h = omega (arith, count_no f n e)

-- ---- keep

pub keep_append : (f : ℕ → Bool) (xs ys : List ℕ) → keep f (xs ++ ys) ≡ keep f xs ++ keep f ys
unfolding keep
keep_append f [] ys = refl
keep_append f (x ∷ xs) ys = go (f x) (keep_append f xs ys)
  where
    go : (b : Bool) → keep f (xs ++ ys) ≡ keep f xs ++ keep f ys
        → cond b (x ∷ keep f (xs ++ ys)) (keep f (xs ++ ys)) ≡ cond b (x ∷ keep f xs) (keep f xs) ++ keep f ys
    go true e = ap (λ (l : List ℕ). x ∷ l) e
    go false e = e

-- one more element
pub keep-yes : (f : ℕ → Bool) (xs : List ℕ) (x : ℕ) → f x ≡ true → keep f (xs ++ (x ∷ [])) ≡ keep f xs ++ (x ∷ [])
unfolding keep
keep-yes f xs x e = keep_append f xs (x ∷ []) ∙ rw e

pub keep-no : (f : ℕ → Bool) (xs : List ℕ) (x : ℕ) → f x ≡ false → keep f (xs ++ (x ∷ [])) ≡ keep f xs
unfolding keep
keep-no f xs x e = keep_append f xs (x ∷ []) ∙ rw e (append-nil (keep f xs))
