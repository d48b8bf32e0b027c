-- What a search reports and leaves: results in which no row comes twice, and results that are the same.
use Rattle.std.specs.Prelude.{ℕ, ◌<◌, ◌≡◌, get_or}
use Rattle.cell_walk.specs.Results.{SearchOut}

-- no row comes twice in the places that are filled
abbrev pub NoRowTwice : SearchOut → Type 0
NoRowTwice o = (p q : ℕ) → p < o.said.found → q < o.said.found → get_or o.rows p 0 ≡ get_or o.rows q 0 → p ≡ q

-- equal answers, counts and lent buffers
pub record SameResults (o p : SearchOut) : Type 0 where
  pub answer : o.answer ≡ p.answer
  pub number : o.said.number ≡ p.said.number
  pub found : o.said.found ≡ p.said.found
  pub scored : o.said.scored ≡ p.said.scored
  pub rows : o.rows ≡ p.rows
  pub sums : o.sums ≡ p.sums
  pub table : o.table ≡ p.table
