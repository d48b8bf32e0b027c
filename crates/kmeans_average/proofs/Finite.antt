-- The test for 9 on a slice is the test on its centre; and the lowest number at which a test holds.
use Prim.Native.Nat.{ℕ, ◌*◌, ◌≤◌, ◌<◌}
use mathlib.Core.Path.{◌≡◌, refl, sym, ◌∙◌, ap}
use mathlib.Core.Bool.{Bool, true, false, cond}
use borrow.Author.Tests.{lt-ltb, le-ltb, ltb-true}
use native.Mathlib.Nat.{le_refl}
use native.Mathlib.Omega.{arith}
use Rattle.std.specs.Prelude.{Option, Some, None, MatchOption}
use mathlib.Core.List.{List}
use lib.Dec.{ltb}
use lib.ListN.{length, get_or}
use lib.Ieee.{Float, nan}
use lib.Ieee.Scale.{finite}
use Rattle.lists.specs.Lists.{Part}
use Rattle.lists.specs.Tests.{every, first}
use Rattle.lists.proofs.Tests.{every-ext, first-is, first-none, first-hit}
use Rattle.lists.proofs.Parts.{get_or-part}
use Rattle.metrics.specs.Distance.{finite_in}
use Rattle.kmeans_average.specs.Finite.{finite_center, finite_coordinate, lowest}

-- a slice that is the stretch of centre i is finite exactly if the centre is
pub stretch-finite : (cs c : List Float) (w i : ℕ) → Part cs (i * w) w c → every (finite_in c) (length c) ≡ finite_center cs w i
unfolding finite_center
stretch-finite cs c w i p =
    rw p.long (every-ext (finite_in c) (finite_coordinate cs w i) w (λ j h. ap finite (ap (λ (l : List Float). get_or l j nan) p.is ∙ get_or-part cs (i * w) w j nan h)))

-- the lowest number at which f holds, if there is one
pub lowest-is : (f : ℕ → Bool) (n i : ℕ) → i < n → f i ≡ true → ((k : ℕ) → k < i → f k ≡ false) → lowest f n ≡ Some i
unfolding lowest
lowest-is f n i h e none = rw (first-is f n i h e none, lt-ltb i n h)

pub lowest-none : (f : ℕ → Bool) (n : ℕ) → ((k : ℕ) → k < n → f k ≡ false) → lowest f n ≡ None
unfolding lowest
lowest-none f n none = rw (first-none f n none, le-ltb n n (le_refl n))

-- so it is what a search of the numbers below n finds
pub lowest-found : (f : ℕ → Bool) (n : ℕ) (r : Option ℕ)
    → MatchOption r ((k : ℕ) → 0 ≤ k → k < n → f k ≡ false) (λ i. (0 ≤ i) × (i < n) × (f i ≡ true) × ((k : ℕ) → 0 ≤ k → k < i → f k ≡ false)) → r ≡ lowest f n
lowest-found f n None none = sym (lowest-none f n (λ k l. none k (omega arith) l))
lowest-found f n (Some i) h = sym (lowest-is f n i h.1 h.2 (λ k l. h.3 k (omega arith) l))

-- where f holds at one, it is below n and f holds there
pub lowest-below : (f : ℕ → Bool) (n i : ℕ) → lowest f n ≡ Some i → i < n
unfolding lowest
lowest-below f n i e = go (ltb (first f n) n) refl e
  where
    go : (b : Bool) → ltb (first f n) n ≡ b → cond b (Some (first f n)) None ≡ Some i → i < n
    go true p q = let s : first f n ≡ i = cc in omega (arith, ltb-true (first f n) n p)
    go false p q = cc

pub lowest-hit : (f : ℕ → Bool) (n i : ℕ) → lowest f n ≡ Some i → f i ≡ true
unfolding lowest
lowest-hit f n i e = go (ltb (first f n) n) refl e
  where
    go : (b : Bool) → ltb (first f n) n ≡ b → cond b (Some (first f n)) None ≡ Some i → f i ≡ true
    go true p q = let s : first f n ≡ i = cc in rw (← s) (first-hit f n (ltb-true (first f n) n p))
    go false p q = cc
