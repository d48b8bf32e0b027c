-- What step 3 promises, in its own words: the centre that a row is assigned to.
use Rattle.std.specs.Prelude.{ℕ, ◌<◌, ◌≡◌, true, false, Option, Some, None, Float}
use Rattle.std.specs.Float.Ieee.Scale.{finite}
use Rattle.kmeans_assign.specs.Assign.{less_of}

-- a worked distance holds a finite float, or is the mark
abbrev pub Sound : Option Float → Type 0
Sound (Some x) = finite x ≡ true
Sound None = Unit {0}

-- c is the lowest of the n centres, at distances d, that no other is strictly less than
pub record NearestOf (d : ℕ → Option Float) (n c : ℕ) : Type 0 where
  pub below : c < n
  -- no centre is strictly less
  pub least : (i : ℕ) → i < n → less_of (d i) (d c) ≡ false
  -- it is strictly less than every lower one
  pub lowest : (i : ℕ) → i < c → less_of (d c) (d i) ≡ true
