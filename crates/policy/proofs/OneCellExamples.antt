-- A query so far from zero that the two searches differ: its coarse distance overflows, and the plain index has none.
use mathlib.Core.Path.{◌≡◌, refl}
use mathlib.Core.List.{[], ◌∷◌}
use lib.Ieee.{Float, binary32, of_bits}
use Rattle.metrics.specs.Distance.{zero32}
use Rattle.answers.specs.declared.Refusal.TheVariants.{DistanceNotFinite}
use Rattle.cell_walk.specs.Results.{lent, answer_of, search_out, blank}
use Rattle.plain_search.specs.Outcome.{SearchIn, search_outcome}
use Rattle.celled_search.specs.Outcome as Celled
use Rattle.policy.specs.OneCell.{in_one_cell}
use Rattle.policy.proofs.OneCell.{one-cell-far}
use Rattle.policy.proofs.Computing.{plain_searches}

-- 2^64, whose square is not finite
abbrev big : Float
big = of_bits binary32 0x5f80_0000

-- D 1, n_sub 1, sub_bits 0; the query 2^64, and one row, at the sub-centre 2^64
abbrev far : SearchIn
far = record {
  shape = record { d = 1; nsub = 1; bits = 0 };
  n = 1;
  query = big ∷ [];
  mask = 1 ∷ [];
  subs = big ∷ [];
  codes = 0 ∷ [];
  lent = lent (7 ∷ []) (big ∷ []) (big ∷ []);
}

pub far-plain : search_outcome far ≡ search_out (answer_of 1 1) (0 ∷ []) (zero32 ∷ []) (zero32 ∷ [])
unfolding plain_searches
far-plain = refl

pub far-celled : Celled.search_outcome (in_one_cell far) ≡ blank far.lent DistanceNotFinite
unfolding plain_searches
far-celled = one-cell-far far refl refl
