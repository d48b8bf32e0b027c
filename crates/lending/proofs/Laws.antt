-- What the proofs of this crate, and of those above it, cite.
use Prim.Native.Nat.{ℕ, zero, suc, ◌+◌}
use mathlib.Core.Path.{◌≡◌, refl, sym, ap, ◌∙◌}
use mathlib.Core.Bool.{Bool, true, false, not, ◌&&◌}
use mathlib.Core.List.{List, [], ◌∷◌}
use native.Mathlib.Nat.{add-zero}
use native.Mathlib.Omega.{arith}
use lib.Dec.{T}
use lib.ListN.{length, get_or}
use lib.Ieee.{Float, nan, inf, fin, is_nan}
use lib.Ieee.Scale.{finite}
use Rattle.std.specs.List.{list_all, enumerate_from, range_with_len}
use Rattle.lists.specs.Tests.{every}
use Rattle.lists.proofs.Tests.{every-ext}

-- what is finite is no NaN
pub no_nan : (x : Float) → finite x ≡ true → T (not (is_nan x))
unfolding is_nan
no_nan nan e = let z : ◌≡◌ {A = ℕ} 0 1 = cc in absurd (omega arith)
no_nan (inf s) e = tt
no_nan (fin s m e) h = tt

-- the first of the tests below n + 1, and the others
and-assoc : (a b c : Bool) → ((a && b) && c) ≡ (a && (b && c))
and-assoc true b c = refl
and-assoc false b c = refl

and-true : (a : Bool) → a ≡ (a && true)
and-true true = refl
and-true false = refl

every-first : (f : ℕ → Bool) (n : ℕ) → every f (suc n) ≡ (f 0 && every (λ i. f (suc i)) n)
unfolding every
every-first f zero = and-true (f 0)
every-first f (suc n) = ap (λ b. b && f (suc n)) (every-first f n) ∙ and-assoc (f 0) (every (λ i. f (suc i)) n) (f (suc n))

-- a test of each element with its place, and of each element, is one at every place; d stands past the list's end
every-from : {A : Type 0} (p : ℕ × A → Bool) (l : List A) (a : ℕ) (d : A) → list_all p (enumerate_from a l) ≡ every (λ j. p (a + j, get_or l j d)) (length l)
unfolding every
every-from p [] a d = refl
every-from p (x ∷ l) a d =
    let first = every-first (λ j. p (a + j, get_or (x ∷ l) j d)) (length l) in
    let rest = every-ext (λ i. p (a + 1 + i, get_or l i d)) (λ i. p (a + suc i, get_or l i d)) (length l) (λ i h. let e : a + 1 + i ≡ a + suc i = omega arith in rw e) in
    ap (λ b. p (a, x) && b) (every-from p l (a + 1) d ∙ rest) ∙ sym (rw add-zero at first)

pub all-every_place : {A : Type 0} (p : ℕ → A → Bool) (l : List A) (d : A) → list_all (λ q. p q.0 q.1) (enumerate_from 0 l) ≡ every (λ j. p j (get_or l j d)) (length l)
all-every_place p l d = every-from (λ q. p q.0 q.1) l 0 d ∙ every-ext (λ j. p (0 + j) (get_or l j d)) (λ j. p j (get_or l j d)) (length l) (λ i h. let e : 0 + i ≡ i = omega arith in rw e)

pub all-every : {A : Type 0} (p : A → Bool) (l : List A) (d : A) → list_all p l ≡ every (λ j. p (get_or l j d)) (length l)
unfolding every
all-every p [] d = refl
all-every p (x ∷ l) d = ap (λ b. p x && b) (all-every p l d) ∙ sym (every-first (λ j. p (get_or (x ∷ l) j d)) (length l))

-- a test of each number below n
every-range : (p : ℕ → Bool) (a n : ℕ) → list_all p (range_with_len a n) ≡ every (λ j. p (a + j)) n
unfolding every
every-range p a zero = refl
every-range p a (suc n) =
    let first = every-first (λ j. p (a + j)) n in
    let rest = every-ext (λ i. p (a + 1 + i)) (λ i. p (a + suc i)) n (λ i h. let e : a + 1 + i ≡ a + suc i = omega arith in rw e) in
    ap (λ b. p a && b) (every-range p (a + 1) n ∙ rest) ∙ sym (rw add-zero at first)

pub all-every_below : (p : ℕ → Bool) (n : ℕ) → list_all p (range_with_len 0 n) ≡ every p n
all-every_below p n = every-range p 0 n ∙ every-ext (λ j. p (0 + j)) p n (λ i h. let e : 0 + i ≡ i = omega arith in rw e)
