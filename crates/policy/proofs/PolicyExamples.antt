-- The row policy on small indexes: what hidden rows would change if they were looked at, and what visible rows do change.
use Prim.Native.Nat.{ℕ, zero, suc}
use mathlib.Core.Path.{◌≡◌, refl, sym, ◌∙◌, ap}
use mathlib.Core.List.{List, [], ◌∷◌}
use mathlib.Core.Bool.{false≢true}
use native.Mathlib.Omega.{arith}
use lib.ListN.{get_or, replicate}
use lib.Ieee.{Float, binary32, of_bits}
use Rattle.std.specs.Prelude.{Err}
use Rattle.lists.specs.Lists.{part}
use Rattle.lists.specs.Tests.{count}
use Rattle.metrics.specs.Distance.{zero32}
use Rattle.neighbor.specs.Neighbor.{blank_row}
use Rattle.answers.specs.declared.Refusal.TheVariants.{Damaged, DistanceNotFinite}
use Rattle.cell_walk.specs.Results.{SearchOut, lent, answer_of, search_out}
use Rattle.celled_lists.specs.Index.{Index}
use Rattle.celled_check.specs.Check.{check_in, check_outcome}
use Rattle.celled_search.specs.Outcome.{SearchIn, search_outcome}
use Rattle.policy.specs.Check.{Passes, list_at}
use Rattle.policy.specs.Policy.{SameCells, SameCodes, AlikeInSight}
use Rattle.policy.proofs.Check.{stands_alike}
use Rattle.policy.proofs.Policy.{lent_for, relisted, row-policy}
use Rattle.policy.proofs.Computing.{celled_searches, checks, one, minus_one, four, sixteen}

-- two searches of which the one has the other's parameters, centres, query, mask and buffers
alike_of : (a : SearchIn) (x : Index) → Passes a.asked.index → Passes (relisted a.asked x).index → SameCells a.asked x → SameCodes a.asked x
    → AlikeInSight a (lent_for (relisted a.asked x) a.lent)
alike_of a x f g cells codes = record {
  first = f;
  second = g;
  d = refl;
  nsub = refl;
  bits = refl;
  cells = refl;
  probes = refl;
  n = refl;
  coarse = refl;
  subs = refl;
  query = refl;
  mask = refl;
  lent = refl;
  same-cells = cells;
  same_codes = codes;
}

-- two equal outcomes have one row in the first place
first-row : {o p : SearchOut} {k l : List ℕ} → o.rows ≡ k → p.rows ≡ l → o ≡ p → get_or k 0 0 ≡ get_or l 0 0
first-row f g e = ap (λ (l : List ℕ). get_or l 0 0) (sym f ∙ ap (λ (o : SearchOut). o.rows) e ∙ g)

-- ---- a hidden row's cell and code

-- D 1, n_sub 1, sub_bits 1, two cells with the centres 0 and 4, both probed, three rows; the sub-centres of both cells are -1 and 1
abbrev index_of : List ℕ → List ℕ → List ℕ → Index
index_of starts members codes = record {
  shape = record { plain = record { d = 1; nsub = 1; bits = 1 }; cells = 2; probes = 2 };
  n = 3;
  coarse = zero32 ∷ four ∷ [];
  starts = starts;
  members = members;
  subs = minus_one ∷ one ∷ minus_one ∷ one ∷ [];
  codes = codes;
}

-- the query 1, and k 3
abbrev ask : List ℕ → Index → SearchIn
ask mask x = record {
  asked = record { index = x; query = one ∷ []; mask = mask };
  lent = lent (7 ∷ 7 ∷ 7 ∷ []) (one ∷ one ∷ one ∷ []) (one ∷ one ∷ []);
}

-- row 1 stands in cell 0 with code 0, or in cell 1 with code 1
abbrev near : Index
near = index_of (0 ∷ 2 ∷ 3 ∷ []) (1 ∷ 2 ∷ 0 ∷ []) (1 ∷ 0 ∷ 0 ∷ [])

abbrev far : Index
far = index_of (0 ∷ 1 ∷ 3 ∷ []) (2 ∷ 0 ∷ 1 ∷ []) (1 ∷ 1 ∷ 0 ∷ [])

abbrev hides1 : List ℕ
hides1 = 1 ∷ 0 ∷ 1 ∷ []

near-passes : Passes near
unfolding checks
near-passes = record { work = replicate 1027 0; accepted = refl }

far-passes : Passes far
unfolding checks
far-passes = record { work = replicate 1027 0; accepted = refl }

near-far-cells : SameCells (ask hides1 near).asked far
unfolding part count
near-far-cells m (suc (suc c)) h k = absurd (omega arith)
near-far-cells zero zero h k = stands_alike (list_at near 0) (list_at far 0) 0 refl
near-far-cells zero (suc zero) h k = stands_alike (list_at near 1) (list_at far 1) 0 refl
near-far-cells (suc zero) zero h k = absurd (false≢true h.shown)
near-far-cells (suc zero) (suc zero) h k = absurd (false≢true h.shown)
near-far-cells (suc (suc zero)) zero h k = stands_alike (list_at near 0) (list_at far 0) 2 refl
near-far-cells (suc (suc zero)) (suc zero) h k = stands_alike (list_at near 1) (list_at far 1) 2 refl
near-far-cells (suc (suc (suc m))) zero h k = absurd (omega arith)
near-far-cells (suc (suc (suc m))) (suc zero) h k = absurd (omega arith)

near-far-codes : SameCodes (ask hides1 near).asked far
near-far-codes m (suc s) h k = absurd (omega arith)
near-far-codes zero zero h k = refl
near-far-codes (suc zero) zero h k = absurd (false≢true h.shown)
near-far-codes (suc (suc zero)) zero h k = refl
near-far-codes (suc (suc (suc m))) zero h k = absurd (omega arith)

pub near-far-alike : AlikeInSight (ask hides1 near) (ask hides1 far)
near-far-alike = alike_of (ask hides1 near) far near-passes far-passes near-far-cells near-far-codes

-- rows 2 and 0 are found, the third place is blank
abbrev found20 : SearchOut
found20 = search_out (answer_of 2 2) (2 ∷ 0 ∷ blank_row ∷ []) (four ∷ sixteen ∷ zero32 ∷ []) (zero32 ∷ zero32 ∷ [])

pub near-found : search_outcome (ask hides1 near) ≡ found20
unfolding celled_searches
near-found = refl

pub far-found : search_outcome (ask hides1 far) ≡ found20
far-found = sym (row-policy (ask hides1 near) (ask hides1 far) near-far-alike) ∙ near-found

-- With all rows shown the two differ: a search that looked at the hidden row's cell or code would answer by it.
pub near-shown : (search_outcome (ask (1 ∷ 1 ∷ 1 ∷ []) near)).rows ≡ 1 ∷ 2 ∷ 0 ∷ []
unfolding celled_searches
near-shown = refl

pub far-shown : (search_outcome (ask (1 ∷ 1 ∷ 1 ∷ []) far)).rows ≡ 2 ∷ 0 ∷ 1 ∷ []
unfolding celled_searches
far-shown = refl

pub shown-differ : search_outcome (ask (1 ∷ 1 ∷ 1 ∷ []) near) ≡ search_outcome (ask (1 ∷ 1 ∷ 1 ∷ []) far) → ⊥
shown-differ e = omega (arith, first-row near-shown far-shown e)

-- ---- a visible row's code, and its cell: each alone changes the outcome

-- near, with code 0 for row 0
abbrev recoded : Index
recoded = index_of (0 ∷ 2 ∷ 3 ∷ []) (1 ∷ 2 ∷ 0 ∷ []) (0 ∷ 0 ∷ 0 ∷ [])

-- near, with row 0 in cell 0
abbrev moved : Index
moved = index_of (0 ∷ 3 ∷ 3 ∷ []) (0 ∷ 1 ∷ 2 ∷ []) (1 ∷ 0 ∷ 0 ∷ [])

pub recoded-passes : Passes recoded
unfolding checks
recoded-passes = record { work = replicate 1027 0; accepted = refl }

pub moved_passes : Passes moved
unfolding checks
moved_passes = record { work = replicate 1027 0; accepted = refl }

recoded-rows : (search_outcome (ask hides1 recoded)).rows ≡ 0 ∷ 2 ∷ blank_row ∷ []
unfolding celled_searches
recoded-rows = refl

moved-rows : (search_outcome (ask hides1 moved)).rows ≡ 0 ∷ 2 ∷ blank_row ∷ []
unfolding celled_searches
moved-rows = refl

pub code-matters : search_outcome (ask hides1 near) ≡ search_outcome (ask hides1 recoded) → ⊥
code-matters e = omega (arith, first-row (ap (λ (o : SearchOut). o.rows) near-found) recoded-rows e)

pub cell-matters : search_outcome (ask hides1 near) ≡ search_outcome (ask hides1 moved) → ⊥
cell-matters e = omega (arith, first-row (ap (λ (o : SearchOut). o.rows) near-found) moved-rows e)

-- ---- a hidden row's sum that is not finite

-- 1.5 · 2^63, whose square is finite and twice that is not
abbrev big : Float
big = of_bits binary32 0x5f40_0000

-- D 2, n_sub 2, sub_bits 1, one cell with the centre (0, 0), two rows; in each sub-space the centres 0 and big
abbrev pair_of : List ℕ → Index
pair_of codes = record {
  shape = record { plain = record { d = 2; nsub = 2; bits = 1 }; cells = 1; probes = 1 };
  n = 2;
  coarse = zero32 ∷ zero32 ∷ [];
  starts = 0 ∷ 2 ∷ [];
  members = 0 ∷ 1 ∷ [];
  subs = zero32 ∷ big ∷ zero32 ∷ big ∷ [];
  codes = codes;
}

-- the query (0, 0), and k 1
abbrev ask_pair : List ℕ → Index → SearchIn
ask_pair mask x = record {
  asked = record { index = x; query = zero32 ∷ zero32 ∷ []; mask = mask };
  lent = lent (7 ∷ []) (one ∷ []) (one ∷ one ∷ one ∷ one ∷ []);
}

-- row 1 at (big, big), or at (0, 0)
abbrev loud : Index
loud = pair_of (0 ∷ 0 ∷ 1 ∷ 1 ∷ [])

abbrev quiet : Index
quiet = pair_of (0 ∷ 0 ∷ 0 ∷ 0 ∷ [])

loud-passes : Passes loud
unfolding checks
loud-passes = record { work = replicate 1026 0; accepted = refl }

quiet-passes : Passes quiet
unfolding checks
quiet-passes = record { work = replicate 1026 0; accepted = refl }

loud-quiet-codes : SameCodes (ask_pair (1 ∷ 0 ∷ []) loud).asked quiet
loud-quiet-codes m (suc (suc s)) h k = absurd (omega arith)
loud-quiet-codes zero zero h k = refl
loud-quiet-codes zero (suc zero) h k = refl
loud-quiet-codes (suc zero) zero h k = absurd (false≢true h.shown)
loud-quiet-codes (suc zero) (suc zero) h k = absurd (false≢true h.shown)
loud-quiet-codes (suc (suc m)) zero h k = absurd (omega arith)
loud-quiet-codes (suc (suc m)) (suc zero) h k = absurd (omega arith)

pub loud-quiet-alike : AlikeInSight (ask_pair (1 ∷ 0 ∷ []) loud) (ask_pair (1 ∷ 0 ∷ []) quiet)
loud-quiet-alike = alike_of (ask_pair (1 ∷ 0 ∷ []) loud) quiet loud-passes quiet-passes (λ m c h k. (λ s. s, λ s. s)) loud-quiet-codes

-- hidden, it refuses nothing: row 0 is found in both
abbrev found0 : SearchOut
found0 = search_out (answer_of 1 1) (0 ∷ []) (zero32 ∷ []) (zero32 ∷ zero32 ∷ zero32 ∷ zero32 ∷ [])

pub loud-found : search_outcome (ask_pair (1 ∷ 0 ∷ []) loud) ≡ found0
unfolding celled_searches
loud-found = refl

pub quiet-found : search_outcome (ask_pair (1 ∷ 0 ∷ []) quiet) ≡ found0
quiet-found = sym (row-policy (ask_pair (1 ∷ 0 ∷ []) loud) (ask_pair (1 ∷ 0 ∷ []) quiet) loud-quiet-alike) ∙ loud-found

-- shown, it is refused in the one index and found in the other
pub loud-shown : (search_outcome (ask_pair (1 ∷ 1 ∷ []) loud)).answer ≡ Err DistanceNotFinite
unfolding celled_searches
loud-shown = refl

pub quiet-shown : (search_outcome (ask_pair (1 ∷ 1 ∷ []) quiet)).answer ≡ answer_of 1 2
unfolding celled_searches
quiet-shown = refl

-- ---- an index that the whole check refuses: row 0 stands in both cells, and comes twice

abbrev doubled : Index
doubled = index_of (0 ∷ 2 ∷ 3 ∷ []) (0 ∷ 1 ∷ 0 ∷ []) (1 ∷ 0 ∷ 0 ∷ [])

pub doubled-refused : (check_outcome (check_in doubled (replicate 1027 0))).answer ≡ Err Damaged
unfolding checks
doubled-refused = refl

pub doubled-rows : (search_outcome (ask (1 ∷ 1 ∷ 1 ∷ []) doubled)).rows ≡ 0 ∷ 1 ∷ 0 ∷ []
unfolding celled_searches
doubled-rows = refl
