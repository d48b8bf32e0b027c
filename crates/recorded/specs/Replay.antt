-- What it means that a recorded file is replayed: where its cases stand, and how many of them agree.
use Rattle.std.specs.Prelude.{ℕ, zero, suc, ◌<◌, Bool, false, cond, List, [], ◌∷◌, length, get_or}
use Rattle.lending.specs.declared.tally.Tally.{Tally}
use Rattle.lending.specs.Tally.{counted_of}
use Rattle.recorded.specs.Layout.{next_of, body_of, ends_at}

-- the place of case i: the first one stands after the head of four words
unfoldable pub place_of : List ℕ → ℕ → ℕ
place_of l zero = 4
place_of l (suc i) = next_of l (place_of l i)

-- each answer is one that is given of its case's body
abbrev pub Answered : (List ℕ → Bool → Type 0) → List ℕ → ℕ → List Bool → Type 0
Answered returns l kind answers = (i : ℕ) → i < length answers → returns (body_of l (place_of l i) kind) (get_or answers i false)

-- answers counted one after the other
unfoldable pub tally_from : Tally → List Bool → Tally
tally_from t [] = t
tally_from t (a ∷ answers) = tally_from (counted_of t a) answers

abbrev pub tally_of : List Bool → Tally
tally_of answers = tally_from (record { agree = 0; of = 0 }) answers

-- and one more that does not agree, where the file does not end after its last case
abbrev pub replayed : List ℕ → List Bool → Tally
replayed l answers = cond (ends_at l (place_of l (length answers))) (tally_of answers) (counted_of (tally_of answers) false)
