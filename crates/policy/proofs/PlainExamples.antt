-- The row policy on a small plain index: a hidden row's damaged code refuses nothing and changes nothing, a shown one's is refused.
use Prim.Native.Nat.{ℕ, zero, suc}
use mathlib.Core.Path.{◌≡◌, refl, ◌∙◌}
use mathlib.Core.List.{List, [], ◌∷◌}
use mathlib.Core.Bool.{false≢true}
use native.Mathlib.Omega.{arith}
use Rattle.std.specs.Prelude.{Err}
use Rattle.metrics.specs.Distance.{zero32}
use Rattle.neighbor.specs.Neighbor.{blank_row}
use Rattle.answers.specs.declared.Refusal.TheVariants.{Damaged}
use Rattle.cell_walk.specs.Results.{SearchOut, lent, answer_of, search_out}
use Rattle.plain_search.specs.Outcome.{SearchIn, search_outcome}
use Rattle.policy.specs.Sight.{CodesAlike}
use Rattle.policy.specs.PlainPolicy.{PlainAlike}
use Rattle.policy.proofs.PlainPolicy.{plain-row-policy}
use Rattle.policy.proofs.Computing.{plain_searches, one, minus_one, four}

-- D 1, n_sub 1, sub_bits 1, two rows; the sub-centres are -1 and 1, the query is 1, and k is 2
abbrev ask : List ℕ → List ℕ → SearchIn
ask mask codes = record {
  shape = record { d = 1; nsub = 1; bits = 1 };
  n = 2;
  query = one ∷ [];
  mask = mask;
  subs = minus_one ∷ one ∷ [];
  codes = codes;
  lent = lent (7 ∷ 7 ∷ []) (one ∷ one ∷ []) (one ∷ one ∷ []);
}

-- row 1 has code 200, which is not below K, or code 1
abbrev wild : List ℕ
wild = 0 ∷ 200 ∷ []

abbrev tame : List ℕ
tame = 0 ∷ 1 ∷ []

wild-tame-codes : CodesAlike 2 (1 ∷ 0 ∷ []) 1 wild tame
wild-tame-codes m (suc s) h k = absurd (omega arith)
wild-tame-codes zero zero h k = refl
wild-tame-codes (suc zero) zero h k = absurd (false≢true h.shown)
wild-tame-codes (suc (suc m)) zero h k = absurd (omega arith)

pub wild-tame-alike : PlainAlike (ask (1 ∷ 0 ∷ []) wild) (ask (1 ∷ 0 ∷ []) tame)
wild-tame-alike = record {
  d = refl;
  nsub = refl;
  bits = refl;
  n = refl;
  subs = refl;
  query = refl;
  mask = refl;
  lent = refl;
  codes-long = refl;
  same_codes = wild-tame-codes;
}

-- row 0 is found, the second place is blank
abbrev found0 : SearchOut
found0 = search_out (answer_of 1 1) (0 ∷ blank_row ∷ []) (four ∷ zero32 ∷ []) (zero32 ∷ zero32 ∷ [])

pub tame-found : search_outcome (ask (1 ∷ 0 ∷ []) tame) ≡ found0
unfolding plain_searches
tame-found = refl

pub wild-found : search_outcome (ask (1 ∷ 0 ∷ []) wild) ≡ found0
wild-found = plain-row-policy (ask (1 ∷ 0 ∷ []) wild) (ask (1 ∷ 0 ∷ []) tame) wild-tame-alike ∙ tame-found

-- shown, it is refused in the one index and found in the other
pub wild-shown : (search_outcome (ask (1 ∷ 1 ∷ []) wild)).answer ≡ Err Damaged
unfolding plain_searches
wild-shown = refl

pub tame-shown : (search_outcome (ask (1 ∷ 1 ∷ []) tame)).rows ≡ 1 ∷ 0 ∷ []
unfolding plain_searches
tame-shown = refl
