-- What it means that what our code wrote agrees bit for bit with the words of a recorded answer.
use Rattle.std.specs.Prelude.{ℕ, Bool, false, ◌&&◌, List, get_or, length, eqb, Float, Ok, Err}
use Rattle.std.specs.Float.{nan, binary32}
use Rattle.std.specs.Float.Ieee.{of_bits}
use Rattle.lists.specs.Tests.{every}
use Rattle.answers.specs.Answers.{Searched}
use Rattle.answers.specs.declared.Found.{Found}
use Rattle.lending.specs.Listed.{bits_of, is_float}
use Rattle.recorded.specs.Layout.{word_at, number_at, place_after}

-- place j of s, by its word, beside the j-th word from a place on
abbrev pub as_recorded {ℓ} : {A : Type ℓ} → (A → ℕ) → A → List ℕ → ℕ → List A → ℕ → Bool
as_recorded word none l at s j = eqb (word (get_or s j none)) (number_at l at j)

-- the same of floats, by their bits, and of numbers
abbrev pub as_float : List ℕ → ℕ → List Float → ℕ → Bool
as_float = as_recorded bits_of nan

abbrev pub as_number : List ℕ → ℕ → List ℕ → ℕ → Bool
as_number = as_recorded (λ x. x) 0

-- four bytes of s beside one word
abbrev pub as_word : List ℕ → ℕ → List ℕ → ℕ → Bool
as_word l at s k = eqb (word_at s k) (number_at l at k)

-- found, scored, the row numbers, the sums; and the table zero
unfoldable pub is_result : List ℕ → ℕ → Found → List ℕ → List Float → List Float → Bool
is_result l at f rows sums table =
    eqb f.found (word_at l at) && eqb f.scored (word_at l (place_after at 1)) && every (as_number l (place_after at 2) rows) (length rows)
    && every (as_float l (place_after (place_after at 2) (length rows)) sums) (length sums)
    && every (is_float table (of_bits binary32 0)) (length table)

-- no recorded search is refused
abbrev pub is_found : List ℕ → ℕ → Searched → List ℕ → List Float → List Float → Bool
is_found l at (Ok f) rows sums table = is_result l at f rows sums table
is_found l at (Err refusal) rows sums table = false
