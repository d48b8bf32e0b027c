-- How many cases there were, and how many of them agree.
use Rattle.std.specs.Prelude.{ℕ, ◌+◌, Bool, cond, ltb, List, [], ◌∷◌, ◌++◌}
use Rattle.std.specs.Fmt.{decimal}
use Rattle.lending.specs.declared.tally.Tally.{Tally}

-- one more, up to a bound that no count comes near
unfoldable pub more_of : ℕ → ℕ
more_of x = cond (ltb x 1_000_000_000) (x + 1) x

-- one more case
unfoldable pub counted_of : Tally → Bool → Tally
counted_of t agrees = record { agree = cond agrees (more_of t.agree) t.agree; of = more_of t.of }

-- the line of a tally: a name, how many agree, " of ", of how many, and the line's end
abbrev pub line_of : List ℕ → Tally → List ℕ
line_of name t = name ++ (decimal t.agree ++ ((32 ∷ 111 ∷ 102 ∷ 32 ∷ []) ++ (decimal t.of ++ (10 ∷ []))))
