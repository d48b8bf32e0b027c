-- Document 01's examples, as one table.
use Prim.Native.Nat.{ℕ}
use mathlib.Core.Path.{◌≡◌, refl}
use mathlib.Core.Bool.{true}
use mathlib.Core.List.{List, [], ◌∷◌, ◌++◌, map}
use lib.ListN.{replicate}
use lib.Ieee.{nan, binary32, of_bits, to_bits}
use Rattle.lists.specs.Examples.{Example, agree}
use Rattle.lists.proofs.Examples.{agree-append}
use Rattle.metrics.specs.Distance.{zero32}
use Rattle.neighbor.proofs.Examples.{neighbor_table, neighbor-examples}
use Rattle.pq_params.proofs.Examples.{ranges_table, ranges-agree}
use Rattle.kmeans.proofs.Examples.{kmeans_table, kmeans-examples}
use Rattle.cell_walk.specs.Results.{SearchOut, lent}
use Rattle.plain_search.specs.Outcome.{SearchIn, search_outcome}
use Rattle.policy.proofs.Computing.{plain_searches}

-- ---- a search in which rows 0 to 3 have the sums 4, 1, 4, 0.5

-- 0.5, 1, 2 and 4, by their bits
abbrev half : ℕ
half = 0x3f00_0000

abbrev one : ℕ
one = 0x3f80_0000

abbrev two : ℕ
two = 0x4000_0000

abbrev four : ℕ
four = 0x4080_0000

-- D 2, n_sub 2, sub_bits 2; the query (0, 0), and in each sub-space the centres 0, 0.5, 1, 2
abbrev ask : List ℕ → ℕ → SearchIn
ask mask k = record {
  shape = record { d = 2; nsub = 2; bits = 2 };
  n = 4;
  query = zero32 ∷ zero32 ∷ [];
  mask = mask;
  subs = map (of_bits binary32) (0 ∷ half ∷ one ∷ two ∷ 0 ∷ half ∷ one ∷ two ∷ []);
  codes = 3 ∷ 0 ∷ 2 ∷ 0 ∷ 0 ∷ 3 ∷ 1 ∷ 1 ∷ [];
  lent = lent (replicate k 7) (replicate k nan) (replicate 8 nan);
}

-- the answer's number, found and scored, then the row numbers and the sums
abbrev told : SearchOut → List ℕ
told o = o.said.number ∷ o.said.found ∷ o.said.scored ∷ (o.rows ++ map (to_bits binary32) o.sums)

-- all rows visible, and row 3 hidden
abbrev pub search_table : List Example
search_table =
    record { found = told (search_outcome (ask (1 ∷ 1 ∷ 1 ∷ 1 ∷ []) 3)); expected = 0 ∷ 3 ∷ 4 ∷ 3 ∷ 1 ∷ 0 ∷ half ∷ one ∷ four ∷ [] }
    ∷ record { found = told (search_outcome (ask (1 ∷ 1 ∷ 1 ∷ 0 ∷ []) 3)); expected = 0 ∷ 3 ∷ 3 ∷ 1 ∷ 0 ∷ 2 ∷ one ∷ four ∷ four ∷ [] }
    ∷ []

search-examples : agree search_table ≡ true
unfolding plain_searches to_bits
search-examples = refl

-- ---- all of them

abbrev pub examples : List Example
examples = ranges_table ++ kmeans_table ++ neighbor_table ++ search_table

-- Every example comes out as the document says.
pub examples-agree : agree examples ≡ true
examples-agree =
    agree-append ranges_table (kmeans_table ++ neighbor_table ++ search_table) ranges-agree
    (agree-append kmeans_table (neighbor_table ++ search_table) kmeans-examples (agree-append neighbor_table search_table neighbor-examples search-examples))
