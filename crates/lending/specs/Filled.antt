-- A buffer that is full of one value, and how many elements of a buffer are lent.
use Rattle.std.specs.Prelude.{ℕ, ◌≤◌, min, ◌≡◌, List, length, take, replicate}

-- n times v; the length follows, and stands beside it because lending asks for it
pub record Filled {ℓ} {A : Type ℓ} (n : ℕ) (v : A) (r : List A) : Type ℓ where
  pub is : r ≡ replicate n v
  pub long : n ≡ length r

-- as many of n elements as s holds; the other two follow, and stand beside it because lending asks for them
pub record Held {ℓ} {A : Type ℓ} (n : ℕ) (s : List A) (r : ℕ) : Type ℓ where
  pub is : r ≡ min (length s) n
  pub within : r ≤ length s
  pub lent : r ≡ length (take r s)
