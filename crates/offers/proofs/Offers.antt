-- Laws on candidates that are offered in their turn: one more, none that counts, the first k that results and batch then hold, and what is merged at the end.
use Prim.Native.Nat.{ℕ, suc, ◌+◌, ◌-◌, ◌≤◌, ◌<◌}
use mathlib.Core.Path.{◌≡◌, refl, sym, ◌∙◌, ap, ap₂}
use mathlib.Core.Bool.{Bool, true}
use mathlib.Core.List.{List, [], ◌∷◌, ◌++◌, map}
use native.Mathlib.Numerals.{add-one}
use native.Mathlib.Omega.{arith}
use borrow.Author.Tests.{eq-eqb}
use lib.ListN.{length, take, drop}
use lib.Seq.{take-take, take-suc, drop-drop}
use lib.Ieee.{Float}
use Rattle.std.specs.List.{list_all}
use Rattle.lists.proofs.Tests.{and_l, and_r, and_both}
use Rattle.neighbor.specs.declared.Candidate.{Candidate}
use Rattle.neighbor.specs.Neighbor.{comes_before, insert_by, insert_all, row_of, sum_of}
use Rattle.neighbor.specs.Held.{FiniteSum, candidate_at, AllFinite, held, held_at, before_last, Merged}
use Rattle.neighbor.specs.Gathered.{Batch, Runs, runs, Gathered, waits, gathered, passed_over, offered}
use Rattle.neighbor.proofs.Insertion.{insert-take}
use Rattle.neighbor.proofs.Sorted.{all_tail, all_take as finite_take}
use Rattle.neighbor.proofs.Offering.{Offered, length-stay, offered-law}
use Rattle.offers.specs.OffersInner.{offered_all, behind}

-- ---- the definition

-- one list after another, and the last of a list
pub offered-append : (s : Runs) (cs ds : List Candidate) → offered_all s (cs ++ ds) ≡ offered_all (offered_all s cs) ds
unfolding offered_all
offered-append s [] ds = refl
offered-append s (c ∷ cs) ds = offered-append (offered s c) cs ds

offered-last : (s : Runs) (cs : List Candidate) (c : Candidate) → offered_all s (cs ++ (c ∷ [])) ≡ offered (offered_all s cs) c
unfolding offered_all
offered-last s cs c = offered-append s cs (c ∷ [])

-- of a list: none, and one more
pub each_none : (s : Runs) (cs : List Candidate) → s ≡ offered_all s (take 0 cs)
unfolding offered_all
each_none s cs = refl

pub each_more : (s s' s'' : Runs) (cs : List Candidate) (j : ℕ) → j < length cs → s' ≡ offered_all s (take j cs) → s'' ≡ offered s' (candidate_at cs j)
    → s'' ≡ offered_all s (take (j + 1) cs)
each_more s s' s'' cs j h e f =
    let c = candidate_at cs j in
    rw add-one (f ∙ ap (λ (u : Runs). offered u c) e ∙ sym (offered-last s (take j cs) c) ∙ ap (offered_all s) (sym (take-suc cs j _ h)))

-- where all places are held and none comes before the last, nothing changes
pub skipped : (s : Runs) (i : ℕ) → s.found ≡ suc i → s.found ≡ length s.rows → (cs : List Candidate) → list_all (behind (held_at s.rows s.sums i)) cs ≡ true → s ≡ offered_all s cs
unfolding before_last offered offered_all
skipped s i e k [] b = refl
skipped s i e k (c ∷ cs) b =
    let t = behind (held_at s.rows s.sums i) in
    let l : before_last s.rows s.sums s.found c ≡ comes_before c (held_at s.rows s.sums i) = ap (λ (m : ℕ). before_last s.rows s.sums m c) e in
    let p : passed_over s c ≡ true = and_both (eq-eqb s.found (length s.rows) k) (rw l (and_l (t c) (list_all t cs) b)) in
    let o : s ≡ offered s c = rw p in
    skipped s i e k cs (and_r (t c) (list_all t cs) b) ∙ ap (λ (u : Runs). offered_all u cs) o

-- ---- the first k

-- the first k of l and cs, inserted in their turn
abbrev pub first_with : ℕ → List Candidate → List Candidate → List Candidate
first_with k l cs = take k (insert_all comes_before l cs)

-- what is not among the first k stays out, whatever comes
pub all_take {ℓ} : {A : Type ℓ} (b : A → A → Bool) (k : ℕ) (l cs : List A) → take k (insert_all b (take k l) cs) ≡ take k (insert_all b l cs)
unfolding insert_all
all_take b k l [] = take-take k k l (omega arith)
all_take {A = A} b k l (c ∷ cs) =
    sym (all_take b k (insert_by b c (take k l)) cs)
    ∙ ap (λ (t : List A). take k (insert_all b t cs)) (insert-take b c k l)
    ∙ all_take b k (insert_by b c l) cs

all_append {ℓ} : {A : Type ℓ} (b : A → A → Bool) (l cs ds : List A) → insert_all b l (cs ++ ds) ≡ insert_all b (insert_all b l cs) ds
unfolding insert_all
all_append b l [] ds = refl
all_append b l (c ∷ cs) ds = all_append b (insert_by b c l) cs ds

-- the first k of l and cs, and then of ds
pub first-join : (k : ℕ) (l cs ds : List Candidate) → first_with k (first_with k l cs) ds ≡ first_with k l (cs ++ ds)
first-join k l cs ds = all_take comes_before k (insert_all comes_before l cs) ds ∙ ap (take k) (sym (all_append comes_before l cs ds))

-- runs that agree from place a on agree from any later one on
drop-later {ℓ} : {A : Type ℓ} (l m : List A) (a b : ℕ) → a ≤ b → drop a l ≡ drop a m → drop b l ≡ drop b m
drop-later {A = A} l m a b h e =
    let o : a + (b - a) ≡ b = omega arith in
    ap (λ (n : ℕ). drop n l) (sym o) ∙ sym (drop-drop (b - a) a l) ∙ ap (λ (t : List A). drop (b - a) t) e ∙ drop-drop (b - a) a m ∙ ap (λ (n : ℕ). drop n m) o

-- The candidates cs in their turn: the first k of results and batch are those of before and cs, and past those held the results are as they were.
pub record OfferedAll (s : Runs) (cs : List Candidate) (s' : Runs) : Type 0 where
  pub again : Gathered s'
  pub first : gathered s' ≡ first_with (length s.rows) (gathered s) cs
  pub long : length s'.rows ≡ length s.rows
  pub more : s.found ≤ s'.found
  pub numbers : drop s'.found s'.rows ≡ drop s'.found s.rows
  pub values : drop s'.found s'.sums ≡ drop s'.found s.sums

pub offered-none : (s : Runs) → Gathered s → OfferedAll s [] s
unfolding insert_all
offered-none s G = record {
  again = G;
  first = sym (take-take (length s.rows) (length s.rows) _ (omega arith));
  long = refl;
  more = omega arith;
  numbers = refl;
  values = refl;
}

pub offered-join : (s s' s'' : Runs) (cs ds : List Candidate) → OfferedAll s cs s' → OfferedAll s' ds s'' → OfferedAll s (cs ++ ds) s''
offered-join s s' s'' cs ds P Q = record {
  again = Q.again;
  first = Q.first ∙ ap₂ (λ (k : ℕ) (l : List Candidate). first_with k l ds) P.long P.first ∙ first-join (length s.rows) (gathered s) cs ds;
  long = Q.long ∙ P.long;
  more = omega (arith, P.more, Q.more);
  numbers = Q.numbers ∙ drop-later s'.rows s.rows s'.found s''.found Q.more P.numbers;
  values = Q.values ∙ drop-later s'.sums s.sums s'.found s''.found Q.more P.values;
}

offered-one : (s s' : Runs) (c : Candidate) → Offered s c s' → OfferedAll s (c ∷ []) s'
unfolding insert_all
offered-one s s' c O = record {
  again = O.again;
  first = O.first;
  long = O.long;
  more = O.more;
  numbers = O.numbers;
  values = O.values;
}

-- the definition keeps the first k
pub offered-all : (s : Runs) (cs : List Candidate) → Gathered s → AllFinite cs → OfferedAll s cs (offered_all s cs)
unfolding offered_all
offered-all s [] G f = offered-none s G
offered-all s (c ∷ cs) G f =
    let O = offered-law s c G (f 0 (omega arith)) in
    offered-join s (offered s c) (offered_all (offered s c) cs) (c ∷ []) cs (offered-one s (offered s c) c O) (offered-all (offered s c) cs O.again (all_tail _ FiniteSum c cs f))

-- so the next of a list finds results and batch in order
pub each-gathered : (s s' : Runs) (cs : List Candidate) (j : ℕ) → Gathered s → AllFinite cs → s' ≡ offered_all s (take j cs) → Gathered s'
each-gathered s s' cs j G f e = rw e (offered-all s (take j cs) G (finite_take _ FiniteSum j cs f)).again

-- ---- the end

-- the results: those kept, and the places past them as they were
pub record Kept (l cs : List Candidate) (rows : List ℕ) (sums : List Float) (rows' : List ℕ) (sums' : List Float) (r : ℕ) : Type 0 where
  pub found-is : r ≡ length (first_with (length rows) l cs)
  pub rows_are : rows' ≡ map row_of (first_with (length rows) l cs) ++ drop (length (first_with (length rows) l cs)) rows
  pub sums-are : sums' ≡ map sum_of (first_with (length rows) l cs) ++ drop (length (first_with (length rows) l cs)) sums

-- what waits is merged
pub offered-done : (rows : List ℕ) (sums : List Float) (found : ℕ) (batch : Batch) (cs : List Candidate) (s : Runs) (rows' : List ℕ) (sums' : List Float) (r : ℕ) → batch.waiting ≡ 0
    → OfferedAll (runs rows sums found batch) cs s → Merged s.rows s.sums s.found (waits s) rows' sums' r → Kept (held rows sums found) cs rows sums rows' sums' r
unfolding insert_all
offered-done rows sums found batch cs s rows' sums' r z P M =
    let e : gathered s ≡ first_with (length rows) (held rows sums found) cs = rw z at P.first ∙ all_take comes_before (length rows) (held rows sums found) cs in
    let n : r ≡ length (first_with (length rows) (held rows sums found) cs) = sym (length-stay _ _ _ _ _ _ _ M) ∙ ap length e in
    let a : s.found ≤ r = omega (arith, M.count, P.again.results.within) in record {
      found-is = n;
      rows_are = M.numbers ∙ rw (e, ← n, drop-later s.rows rows s.found r a P.numbers);
      sums-are = M.values ∙ rw (e, ← n, drop-later s.sums sums s.found r a P.values);
    }
