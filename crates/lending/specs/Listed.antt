-- A list and one value for every place past its end, and what it means that it agrees with a buffer bit for bit, place by place.
use Rattle.std.specs.Prelude.{ℕ, Bool, cond, List, get_or, eqb, Float}
use Rattle.std.specs.Float.{nan, binary32}
use Rattle.std.specs.Float.Ieee.{to_bits}
use Rattle.std.specs.Float.Ieee.Scale.{finite}

-- a float's bits, or all ones for what is not finite
unfoldable pub bits_of : Float → ℕ
bits_of x = cond (finite x) (to_bits binary32 x) 0xffff_ffff

abbrev pub in_list {ℓ} : {A : Type ℓ} → List A → A → ℕ → A
in_list list rest j = get_or list j rest

-- place j of s beside place j of the list, each by its word
abbrev pub same_at {ℓ} : {A : Type ℓ} → (A → ℕ) → A → List A → List A → A → ℕ → Bool
same_at word none s list rest j = eqb (word (get_or s j none)) (word (in_list list rest j))

-- place j of s beside one value
abbrev pub is_at {ℓ} : {A : Type ℓ} → (A → ℕ) → A → List A → A → ℕ → Bool
is_at word none s v j = eqb (word (get_or s j none)) (word v)

-- the same of floats, by their bits, and of numbers and bytes
abbrev pub same_float : List Float → List Float → Float → ℕ → Bool
same_float = same_at bits_of nan

abbrev pub same_number : List ℕ → List ℕ → ℕ → ℕ → Bool
same_number = same_at (λ x. x) 0

abbrev pub is_float : List Float → Float → ℕ → Bool
is_float = is_at bits_of nan

abbrev pub is_number : List ℕ → ℕ → ℕ → Bool
is_number = is_at (λ x. x) 0
