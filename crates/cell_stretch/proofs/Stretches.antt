-- Laws on one stretch: each shown row has its codes, the picked rows with their sums are the candidates of the definition, and so are its two ends.
use Rattle.std.proofs.Common.{◌≡◌, ℕ, suc, ◌+◌, ◌-◌, ◌≤◌, ◌<◌, Bool, true, List, [], ◌∷◌, map, length, take, get_or, refl, sym, ◌∙◌, ap, arith}
use Rattle.std.specs.Prelude.{Ok, Err, Float}
use Rattle.std.proofs.lemmas.List.{take-map}
use lib.ListN.{length-map}
use lib.Seq.{length-take-le}
use Rattle.answers.specs.declared.Refusal.{Refusal}
use Rattle.answers.specs.Answers.{Checked}
use Rattle.lists.proofs.Tests.{every_true}
use Rattle.lists.proofs.Joins.{within}
use Rattle.neighbor.specs.declared.Candidate.{Candidate}
use Rattle.neighbor.specs.Neighbor.{row_of}
use Rattle.neighbor.specs.Held.{FiniteSum, AllFinite}
use Rattle.neighbor.specs.declared.Counts.{Counts}
use Rattle.neighbor.specs.Gathered.{batch_of, Runs, runs}
use Rattle.neighbor.proofs.Sorted.{all_cons}
use Rattle.offers.specs.OffersInner.{offered_all}
use Rattle.cell_table.specs.declared.CellView.{CellView}
use Rattle.cell_table.specs.TablesInner.{if_finite, finite_at}
use Rattle.cell_table.proofs.Marks.{ok-finite, err-broken}
use Rattle.cell_codes.specs.Codes.{row_at, visible, of_all}
use Rattle.cell_codes.specs.CodesInner.{sound_at}
use Rattle.cell_codes.proofs.Shown.{kept-all}
use Rattle.cell_sums.specs.SumsInner.{Coded, candidate_by, with_sums, Summed}
use Rattle.cell_stretch.specs.StretchInner.{onwards, stretch_of, candidates_in, finite_stretch, Ready, Picked, Visited}

-- candidates whose sums are finite
pub finite-candidates : (f : ℕ → Float) (l : List ℕ) → of_all (finite_at f) l ≡ true → AllFinite (map (candidate_by f) l)
finite-candidates f l e = go l (every_true (λ (i : ℕ). finite_at f (get_or l i 0)) (length l) e)
  where
    go : (l : List ℕ) → ((i : ℕ) → i < length l → finite_at f (get_or l i 0) ≡ true) → AllFinite (map (candidate_by f) l)
    go [] h = λ i k. absurd (omega arith)
    go (m ∷ l) h = all_cons _ FiniteSum (candidate_by f m) (map (candidate_by f) l) (h 0 (omega arith)) (go l (λ i k. h (suc i) (omega arith)))

-- each shown row's codes are below K
pub coded-stretch : (z : CellView) (centers : ℕ) (table : List Float) (from to : ℕ) → Ready z centers table → to ≤ z.n
    → (i : ℕ) → i < length (stretch_of (visible z.mask.now) (row_at z) from to) → Coded z.codes.now table z.shape.nsub centers (get_or (stretch_of (visible z.mask.now) (row_at z) from to) i 0)
coded-stretch z centers table from to R w =
    kept-all (visible z.mask.now) (onwards (row_at z) from) (Coded z.codes.now table z.shape.nsub centers) (to - from)
    (λ k h v. record {
      codes-held = rw R.rows-of.codes-long (within (row_at z (from + k)) (length z.mask.now) z.shape.nsub (R.rows-of.numbered.inside (from + k) (omega arith)));
      table-long = R.table-long;
      under = rw v at (every_true (sound_at z centers) z.n R.sound (from + k) (omega arith));
    })

-- rows with their sums are candidates
sums-by-rows : (f : ℕ → Float) (l : List Candidate) → with_sums f l ≡ map (candidate_by f) (map row_of l)
sums-by-rows f [] = refl
sums-by-rows f (c ∷ l) = ap (λ (t : List Candidate). candidate_by f c.row ∷ t) (sums-by-rows f l)

-- the picked rows
pub picked-rows : {v : ℕ → Bool} {g : ℕ → ℕ} {from to : ℕ} {places : List Candidate} {r : ℕ} → Picked v g from to places r → stretch_of v g from to ≡ map row_of (take r places)
picked-rows {places = places} {r = r} P = P.are ∙ take-map row_of r places

module _ (f : ℕ → Float) (v : ℕ → Bool) (g : ℕ → ℕ) (from to : ℕ) (places : List Candidate) (r : ℕ) (P : Picked v g from to places r) (picked : List Candidate) (answer : Checked)
    (S : Summed f (take r places) picked answer) where
  -- with their sums they are the candidates
  candidates-are : picked ≡ candidates_in f v g from to
  candidates-are = S.sums-are ∙ sums-by-rows f (take r places) ∙ ap (map (candidate_by f)) (sym (picked-rows P))

  answer-is : answer ≡ if_finite (finite_stretch f v g from to)
  answer-is = S.answer ∙ ap (λ (l : List ℕ). if_finite (of_all (finite_at f) l)) (sym (picked-rows P))

  -- all sums are finite
  pub picked-finite : answer ≡ Ok tt → AllFinite picked
  picked-finite e = rw candidates-are (finite-candidates f (stretch_of v g from to) (ok-finite _ (sym e ∙ answer-is)))

  -- one is not, and nothing changes
  pub visited-broken : (rows : List ℕ) (sums : List Float) (found : ℕ) (batch : List Candidate) (waiting : ℕ) (why : Refusal) → answer ≡ Err why
      → Visited f v g from to (runs rows sums found (batch_of batch waiting)) rows sums batch (Err why)
  visited-broken rows sums found batch waiting why e =
      let b = err-broken (finite_stretch f v g from to) why (sym e ∙ answer-is) in
      record { answer = ap Err b.1 ∙ rw b.0; runs-are = rw b.0 }

  -- all are offered
  pub visited-went : (s : Runs) (rows' : List ℕ) (sums' : List Float) (batch' : List Candidate) (k : Counts) → answer ≡ Ok tt → runs rows' sums' k.found (batch_of batch' k.waiting) ≡ offered_all s picked
      → Visited f v g from to s rows' sums' batch' (Ok (record { found = k.found; waiting = k.waiting; count = r }))
  visited-went s rows' sums' batch' k e O =
      let b : finite_stretch f v g from to ≡ true = ok-finite _ (sym e ∙ answer-is) in
      let E : runs rows' sums' k.found (batch_of batch' k.waiting) ≡ offered_all s (candidates_in f v g from to) = O ∙ ap (offered_all s) candidates-are in
      let x : k.found ≡ (offered_all s (candidates_in f v g from to)).found = ap (λ (u : Runs). u.found) E in
      let y : k.waiting ≡ (offered_all s (candidates_in f v g from to)).batch.waiting = ap (λ (u : Runs). u.batch.waiting) E in
      let n : r ≡ length (candidates_in f v g from to) =
      sym (length-take-le r places P.room)
      ∙ sym (length-map (take r places) row_of)
      ∙ ap length (sym (picked-rows P))
      ∙ sym (length-map (stretch_of v g from to) (candidate_by f)) in record {
        answer = (λ t. Ok (record { found = x t; waiting = y t; count = n t })) ∙ rw b;
        runs-are = rw b ((λ t. runs rows' sums' (sym x t) (batch_of batch' (sym y t))) ∙ E);
      }
