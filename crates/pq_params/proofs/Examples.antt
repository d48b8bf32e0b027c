-- Document 01's examples on ranges, as one table.
use Prim.Native.Nat.{ℕ}
use mathlib.Core.Path.{◌≡◌, refl}
use mathlib.Core.Bool.{true}
use mathlib.Core.List.{List, [], ◌∷◌}
use lib.ListN.{get_or}
use Rattle.lists.specs.Lists.{tab, fill, join}
use Rattle.lists.specs.Examples.{Example, agree}
use Rattle.pq_params.specs.Ranges.{width_of, begin_of, covered_of, ranges_of}
use Rattle.pq_params.specs.Lengths.{plain_lengths}

-- the first n pairs, begin and end, one after the other
abbrev pub pairs_of : ℕ → List (List ℕ) → List ℕ
pairs_of n l = join (λ (i : ℕ). get_or l i []) n

-- the number that an index of no rows with these ranges is answered
abbrev pub number_of : ℕ → ℕ → ℕ
number_of d nsub = (plain_lengths (record { d = d; nsub = nsub; bits = 0 }) 0).number

abbrev pub ranges_table : List Example
ranges_table =
    record { found = pairs_of 4 (ranges_of 10 4); expected = 0 ∷ 2 ∷ 2 ∷ 4 ∷ 4 ∷ 6 ∷ 6 ∷ 8 ∷ [] }
    ∷ record { found = pairs_of 3 (ranges_of 11 3); expected = 0 ∷ 4 ∷ 4 ∷ 8 ∷ 8 ∷ 11 ∷ [] }
    ∷ record { found = pairs_of 4 (ranges_of 11 4); expected = 0 ∷ 3 ∷ 3 ∷ 5 ∷ 5 ∷ 7 ∷ 7 ∷ 9 ∷ [] }
    ∷ record { found = covered_of 60 25 ∷ covered_of 128 25 ∷ []; expected = 50 ∷ 128 ∷ [] }
    ∷ record { found = number_of 3 4 ∷ pairs_of 64 (ranges_of 3 4); expected = 1 ∷ fill 0 128 }
    ∷ record { found = number_of 4 4 ∷ pairs_of 4 (ranges_of 4 4); expected = 0 ∷ 0 ∷ 1 ∷ 1 ∷ 2 ∷ 2 ∷ 3 ∷ 3 ∷ 4 ∷ [] }
    ∷ []

pub ranges-agree : agree ranges_table ≡ true
unfolding plain_lengths ranges_of begin_of width_of tab join
ranges-agree = refl
