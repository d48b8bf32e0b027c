-- What an I/O error leaves, of a reader or a writer whose bytes are known.
use Rattle.std.specs.Prelude.{◌≡◌, ℕ, ◌≤◌, List, ◌++◌, length, take, Option}
use Rattle.std.specs.Io.KnownBytes.{Appends, Consumes}

-- no byte is lost: the known bytes are some that stand at the front of the buffer, and those that the reader still has
abbrev pub GaveFront : Option (List ℕ) → Option (List ℕ) → List ℕ → Type 0
GaveFront old new buf = (n : ℕ) × (n ≤ length buf) × Consumes old new (take n buf)

-- known contents stay, and grow by a beginning of the words, which may be none or all of them
abbrev pub AppendsFront : Option (List ℕ) → Option (List ℕ) → List ℕ → Type 0
AppendsFront old new words = (front : List ℕ) × (rest : List ℕ) × (words ≡ front ++ rest) × Appends old new front
