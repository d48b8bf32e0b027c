-- A table of worked examples: what a definition gives, beside what document 01 says. Floats stand as their bits.
use Rattle.std.specs.Prelude.{ℕ, List, [], ◌∷◌, Bool, true, false, ◌&&◌, eqb}

pub record Example : Type 0 where
  pub found : List ℕ
  pub expected : List ℕ

-- whether two lists of numbers are the same
abbrev pub same : List ℕ → List ℕ → Bool
same [] [] = true
same [] (y ∷ ys) = false
same (x ∷ xs) [] = false
same (x ∷ xs) (y ∷ ys) = eqb x y && same xs ys

-- whether every example of a table is as it should be
abbrev pub agree : List Example → Bool
agree [] = true
agree (e ∷ es) = same e.found e.expected && agree es
