-- A loop that tests every place, a place a turn: none is tested, one more, and all. And a test of every place of several stretches.
use Prim.Native.Nat.{ℕ, zero, suc, ◌+◌, ◌*◌}
use mathlib.Core.Path.{◌≡◌, refl, ◌∙◌, ap}
use mathlib.Core.Bool.{Bool, true, ◌&&◌, and-true, and_assoc}
use native.Mathlib.Nat.{add-zero, add-suc, zero-mul, suc-mul}
use Rattle.lists.specs.Tests.{every}

module _ (f : ℕ → Bool) where
  pub every-none : true ≡ every f 0
  unfolding every
  every-none = refl

  pub every_more : (i : ℕ) (b : Bool) → b ≡ every f i → (b && f i) ≡ every f (suc i)
  unfolding every
  every_more i b e = rw e

  pub every-done : (i n : ℕ) (b : Bool) → b ≡ every f i → i ≡ n → b ≡ every f n
  every-done i n b e p = e ∙ ap (every f) p

  every-add : (a b : ℕ) → every f (a + b) ≡ (every f a && every (λ (j : ℕ). f (a + j)) b)
  unfolding every
  every-add a zero = rw (add-zero, and-true (every f a))
  every-add a (suc b) = rw (add-suc, every-add a b) (and_assoc (every f a) _ _)

  -- n stretches of width w
  pub every-stretch : (n w : ℕ) → every (λ (i : ℕ). every (λ (j : ℕ). f (i * w + j)) w) n ≡ every f (n * w)
  unfolding every
  every-stretch zero w = rw zero-mul
  every-stretch (suc n) w = rw (suc-mul, every-add (n * w) w) (ap (λ (b : Bool). b && every (λ (j : ℕ). f (n * w + j)) w) (every-stretch n w))
