-- Laws on the walk of a cell's rows: its start, a stretch that breaks it off, its end, and what its answer leaves.
use Rattle.std.proofs.Common.{◌≡◌, ℕ, zero, suc, ◌+◌, ◌-◌, ◌≤◌, ◌<◌, Bool, true, false, ◌&&◌, List, [], ◌∷◌, ◌++◌, map, length, refl, sym, ◌∙◌, ap, append_assoc, length-append, add-zero, arith}
use Rattle.std.specs.Prelude.{Result, Ok, Err, is_err, Float}
use mathlib.Core.Bool.{true≢false}
use mathlib.Core.List.{append-nil, map-append}
use native.Mathlib.Nat.{add-suc, sub-zero}
use lib.ListN.{length-map}
use Rattle.answers.specs.declared.Refusal.{Refusal}
use Rattle.answers.specs.declared.Refusal.TheVariants.{DistanceNotFinite}
use Rattle.answers.specs.Answers.{Searched}
use Rattle.lists.specs.Lists.{tab, fill}
use Rattle.lists.specs.Tests.{keep, every}
use Rattle.lists.proofs.Tests.{keep_append}
use Rattle.metrics.specs.Distance.{zero32}
use Rattle.neighbor.specs.declared.Candidate.{Candidate}
use Rattle.neighbor.specs.Neighbor.{blank_row, result_rows, result_sums}
use Rattle.neighbor.specs.Held.{Held, Merged}
use Rattle.neighbor.specs.Gathered.{Batch, batch_of, Runs, runs, waits, Gathered}
use Rattle.offers.specs.OffersInner.{offered_all}
use Rattle.offers.proofs.Offers.{OfferedAll, offered-append, offered-all, offered-done}
use Rattle.cell_table.specs.TablesInner.{finite_at}
use Rattle.cell_codes.specs.Codes.{of_all}
use Rattle.cell_codes.proofs.Shown.{all_join, few-kept, still-broken}
use Rattle.cell_sums.specs.SumsInner.{candidate_by}
use Rattle.cell_stretch.specs.declared.Went.{Went}
use Rattle.cell_stretch.specs.StretchInner.{onwards, stretch_of, candidates_in, finite_stretch, after_stretch, step_with, Visited}
pub use Rattle.cell_stretch.proofs.Stretches.{finite-candidates}
use Rattle.cell_walk.specs.Results.{answer_of}
use Rattle.cell_walk.specs.WalkInner.{shown_to, candidates_to, finite_to, Walked, Scanned, Blank}

-- none wait in a batch to begin with
pub gathered-start : (rows : List ℕ) (sums : List Float) (found : ℕ) (batch : List Candidate) → Held rows sums found → 0 < length batch
    → Gathered (runs rows sums found (batch_of batch 0))
gathered-start rows sums found batch H h =
    record { results = H; batch = record { all_finite = λ i l. absurd (omega arith); in_order = λ i j l m. absurd (omega arith) }; room = h; within = omega arith }

-- ---- one stretch more

tab-append : (g : ℕ → ℕ) (m n : ℕ) → tab g (m + n) ≡ tab g m ++ tab (onwards g m) n
unfolding tab
tab-append g m zero = rw add-zero (sym (append-nil (tab g m)))
tab-append g m (suc n) = rw add-suc (ap (λ (t : List ℕ). t ++ (g (m + n) ∷ [])) (tab-append g m n) ∙ append_assoc (tab g m) (tab (onwards g m) n) (g (m + n) ∷ []))

module _ (f : ℕ → Float) (v : ℕ → Bool) (g : ℕ → ℕ) (from to : ℕ) (h : from ≤ to) where
  shown-join : shown_to v g to ≡ shown_to v g from ++ stretch_of v g from to
  shown-join =
      let e : to ≡ from + (to - from) = omega arith in
      ap (shown_to v g) e ∙ ap (keep v) (tab-append g from (to - from)) ∙ keep_append v (tab g from) (tab (onwards g from) (to - from))

  candidates-join : candidates_to f v g to ≡ candidates_to f v g from ++ candidates_in f v g from to
  candidates-join = ap (map (candidate_by f)) shown-join ∙ map-append (candidate_by f) (shown_to v g from) (stretch_of v g from to)

  finite-join : finite_to f v g to ≡ (finite_to f v g from && finite_stretch f v g from to)
  finite-join = ap (of_all (finite_at f)) shown-join ∙ all_join (finite_at f) (shown_to v g from) (stretch_of v g from to)

  and-false : (a b : Bool) → b ≡ false → (a && b) ≡ false
  and-false true b e = e
  and-false false b e = refl

  module _ (s : Runs) (rows' : List ℕ) (sums' : List Float) (batch' : List Candidate) (r : Result Went Refusal) (W : Visited f v g from to s rows' sums' batch' r) where
    -- a stretch that refuses
    pub stretch-broken : (why : Refusal) → r ≡ Err why → (why ≡ DistanceNotFinite) × (finite_to f v g to ≡ false)
    stretch-broken why e = go (finite_stretch f v g from to) refl
      where
        go : (b : Bool) → finite_stretch f v g from to ≡ b → (why ≡ DistanceNotFinite) × (finite_to f v g to ≡ false)
        go true t =
            let a : r ≡ step_with true (after_stretch f v g from to s) (length (candidates_in f v g from to)) = W.answer ∙ rw t in
            cc
        go false t =
            let a : r ≡ Err DistanceNotFinite = W.answer ∙ rw t in
            (cc, finite-join ∙ and-false (finite_to f v g from) (finite_stretch f v g from to) t)

    -- one that goes on
    pub record GoesOn (w : Went) : Type 0 where
      pub passed : finite_to f v g from ≡ true → finite_to f v g to ≡ true
      pub counted : length (candidates_to f v g to) ≡ length (candidates_to f v g from) + w.count
      pub offered : (s₀ : Runs) → s ≡ offered_all s₀ (candidates_to f v g from) → runs rows' sums' w.found (batch_of batch' w.waiting) ≡ offered_all s₀ (candidates_to f v g to)

    pub stretch-went : (w : Went) → r ≡ Ok w → GoesOn w
    stretch-went w e = go (finite_stretch f v g from to) refl
      where
        cs : List Candidate
        cs = candidates_in f v g from to

        go : (b : Bool) → finite_stretch f v g from to ≡ b → GoesOn w
        go true t =
            let a : r ≡ step_with true (offered_all s cs) (length cs) = W.answer ∙ rw t in
            let q : w ≡ record { found = (offered_all s cs).found; waiting = (offered_all s cs).batch.waiting; count = length cs } = cc in
            let E : runs rows' sums' (offered_all s cs).found (batch_of batch' (offered_all s cs).batch.waiting) ≡ offered_all s cs = rw t at W.runs-are in record {
              passed = λ p. finite-join ∙ rw (p, t);
              counted = ap length candidates-join ∙ length-append (candidates_to f v g from) cs ∙ ap (λ (x : Went). length (candidates_to f v g from) + x.count) (sym q);
              offered = λ s₀ p.
                  ap (λ (x : Went). runs rows' sums' x.found (batch_of batch' x.waiting)) q
                  ∙ E
                  ∙ ap (λ (u : Runs). offered_all u cs) p
                  ∙ sym (offered-append s₀ (candidates_to f v g from) cs)
                  ∙ ap (offered_all s₀) (sym candidates-join);
            }
        go false t =
            let a : r ≡ Err DistanceNotFinite = W.answer ∙ rw t in
            cc

-- ---- the walk

module _ (f : ℕ → Float) (v : ℕ → Bool) (g : ℕ → ℕ) where
  -- of no rows
  pub offered-start : (s : Runs) → s ≡ offered_all s (candidates_to f v g 0)
  unfolding tab keep offered_all
  offered-start s = refl

  pub finite-start : finite_to f v g 0 ≡ true
  unfolding tab keep every
  finite-start = refl

  pub count-start : 0 ≡ length (candidates_to f v g 0)
  unfolding tab keep
  count-start = refl

  -- no more are scored than there are
  pub candidates-few : (n : ℕ) → length (candidates_to f v g n) ≤ n
  candidates-few n = omega (arith, length-map (shown_to v g n) (candidate_by f), few-kept v g n)

  -- results and batch stay in order
  pub walk-offered : (s s' : Runs) (i : ℕ) → Gathered s → finite_to f v g i ≡ true → s' ≡ offered_all s (candidates_to f v g i) → OfferedAll s (candidates_to f v g i) s'
  walk-offered s s' i G t e = rw e (offered-all s (candidates_to f v g i) G (finite-candidates f (shown_to v g i) t))

  pub still-gathered : (rows : List ℕ) (sums : List Float) (found : ℕ) (batch : List Candidate) → Held rows sums found → 0 < length batch → (s : Runs) (i : ℕ) → finite_to f v g i ≡ true
      → s ≡ offered_all (runs rows sums found (batch_of batch 0)) (candidates_to f v g i) → Gathered s
  still-gathered rows sums found batch H h s i t e = (walk-offered _ s i (gathered-start rows sums found batch H h) t e).again

  module _ (n : ℕ) (rows : List ℕ) (sums : List Float) (found : ℕ) (rows' : List ℕ) (sums' : List Float) where
    -- a stretch breaks it off
    pub walked-broken : (to : ℕ) (why : Refusal) → to ≤ n → (why ≡ DistanceNotFinite) × (finite_to f v g to ≡ false) → Walked f v g n rows sums found rows' sums' (Err why)
    walked-broken to why h e =
        let o : finite_to f v g n ≡ false = still-broken v g (finite_at f) to n h e.1 in record {
          answer = ap Err e.0 ∙ rw o;
          rows_are = λ t. absurd (true≢false (sym t ∙ o));
          sums-are = λ t. absurd (true≢false (sym t ∙ o));
        }

    -- what waits is merged
    pub walked_through : (batch : Batch) (s : Runs) (r scored : ℕ) (waiting : List Candidate) → batch.waiting ≡ 0 → Gathered (runs rows sums found batch) → finite_to f v g n ≡ true
        → s ≡ offered_all (runs rows sums found batch) (candidates_to f v g n) → scored ≡ length (candidates_to f v g n) → waiting ≡ waits s
        → Merged s.rows s.sums s.found waiting rows' sums' r
        → Walked f v g n rows sums found rows' sums' (answer_of r scored)
    walked_through batch s r scored waiting z G t O e w M =
        let K = offered-done rows sums found batch (candidates_to f v g n) s rows' sums' r z (walk-offered (runs rows sums found batch) s n G t O) (rw w at M) in record {
          answer = rw (t, K.found-is, e);
          rows_are = λ _. K.rows_are;
          sums-are = λ _. K.sums-are;
        }

  -- ---- the whole cell

  module _ (n : ℕ) (rows : List ℕ) (sums : List Float) (found : ℕ) (rows' : List ℕ) (sums' : List Float) (r : Searched) (W : Walked f v g n rows sums found rows' sums' r) (table : List Float) where
    -- the results stay
    pub scanned-done : is_err r ≡ false → Scanned f v g n rows sums found table rows' sums' table r
    scanned-done e = go (finite_to f v g n) refl
      where
        go : (b : Bool) → finite_to f v g n ≡ b → Scanned f v g n rows sums found table rows' sums' table r
        go true t = record { answer = W.answer; rows_are = W.rows_are t ∙ rw t; sums-are = W.sums-are t ∙ rw t; table_is = rw t }
        go false t =
            let a : is_err r ≡ true = ap is_err W.answer ∙ rw t in
            cc

    -- they become blank, and the table zero
    pub scanned-refused : (rows'' : List ℕ) (sums'' table'' : List Float) → is_err r ≡ true → length rows' ≡ length rows → Blank (length rows') rows'' sums''
        → table'' ≡ fill zero32 (length table) → Scanned f v g n rows sums found table rows'' sums'' table'' r
    scanned-refused rows'' sums'' table'' e l B T = go (finite_to f v g n) refl
      where
        go : (b : Bool) → finite_to f v g n ≡ b → Scanned f v g n rows sums found table rows'' sums'' table'' r
        go true t =
            let a : is_err r ≡ false = ap is_err W.answer ∙ rw t in
            cc
        go false t = record { answer = W.answer; rows_are = B.rows-blank ∙ rw (t, l); sums-are = B.sums-blank ∙ rw (t, l); table_is = T ∙ rw t }

-- ---- blank results

pub blank-rows : (k : ℕ) → fill blank_row k ≡ result_rows k []
blank-rows k = rw sub-zero

pub blank-sums : (k : ℕ) → fill zero32 k ≡ result_sums k []
blank-sums k = rw sub-zero

-- two outcomes that a blank promise allows are equal
pub blank-once : (k : ℕ) (rows rows' : List ℕ) (sums sums' : List Float) → Blank k rows sums → Blank k rows' sums' → (rows ≡ rows') × (sums ≡ sums')
blank-once k rows rows' sums sums' p q = (p.rows-blank ∙ sym q.rows-blank, p.sums-blank ∙ sym q.sums-blank)
