-- What a search of the face reports and leaves, equal in two searches.
use Rattle.std.specs.Prelude.{◌≡◌}
use Rattle.bergrosk.specs.Face.{FacedSearch}

pub record SameFaced (o p : FacedSearch) : Type 0 where
  pub number : o.said.number ≡ p.said.number
  pub found : o.said.found ≡ p.said.found
  pub scored : o.said.scored ≡ p.said.scored
  pub rows : o.rows ≡ p.rows
  pub sums : o.sums ≡ p.sums
  pub table : o.table ≡ p.table
