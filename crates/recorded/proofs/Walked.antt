-- Answers that are given case after case.
use Rattle.std.proofs.Common.{◌≡◌, ℕ, suc, ◌+◌, ◌<◌, Bool, false, cond, ◌≤◌, List, [], ◌∷◌, ◌++◌, length, get_or, refl, sym, ap, ap₂, ◌∙◌, subst, arith, add-one, length-append}
use lib.ListN.{get_or-append}
use lib.Seq.{get_or_at}
use Rattle.lists.proofs.Tables.{last_or}
use Rattle.lending.specs.declared.tally.Tally.{Tally}
use Rattle.lending.specs.Tally.{counted_of}
use Rattle.recorded.specs.Layout.{next_of, body_of, ends_at}
use Rattle.recorded.specs.Replay.{place_of, Answered, tally_from, tally_of, replayed}

-- i cases are answered and counted, and the next one stands at a place
pub record Walked (R : List ℕ → Bool → Type 0) (l : List ℕ) (kind : ℕ) (t : Tally) (at i : ℕ) (answers : List Bool) : Type 0 where
  pub many : length answers ≡ i
  pub answered : Answered R l kind answers
  pub counted : t ≡ tally_of answers
  pub place : at ≡ place_of l i

pub tally-more : (t : Tally) (answers : List Bool) (b : Bool) → tally_from t (answers ++ (b ∷ [])) ≡ counted_of (tally_from t answers) b
unfolding tally_from
tally-more t [] b = refl
tally-more t (a ∷ answers) b = tally-more (counted_of t a) answers b

-- one more answer
answered-more : (R : List ℕ → Bool → Type 0) (l : List ℕ) (kind : ℕ) (answers : List Bool) (b : Bool)
    → Answered R l kind answers → R (body_of l (place_of l (length answers)) kind) b → Answered R l kind (answers ++ (b ∷ []))
answered-more R l kind answers b before here i h =
    let P : Bool → Type 0 = R (body_of l (place_of l i) kind) in
    let k : i < suc (length answers) = omega (arith, length-append answers (b ∷ [])) in
    last_or i (length answers) k
    (λ e. subst (λ j. R (body_of l (place_of l j) kind) (get_or (answers ++ (b ∷ [])) j false)) (sym e) (subst (R (body_of l (place_of l (length answers)) kind)) (sym (get_or_at answers b [] false (length answers) refl)) here))
    (λ m. subst P (sym (get_or-append answers (b ∷ []) false i m)) (before i m))

pub walked-none : (R : List ℕ → Bool → Type 0) (l : List ℕ) (kind : ℕ) (t : Tally) → t.agree ≡ 0 → t.of ≡ 0 → Walked R l kind t 4 0 []
unfolding tally_from place_of
walked-none R l kind t e f =
    let counts : ℕ → ℕ → Tally = λ a b. record { agree = a; of = b } in
    record { many = refl; answered = λ i h. absurd (omega arith); counted = ap₂ counts e f; place = refl }

pub walked-more : {R : List ℕ → Bool → Type 0} {l : List ℕ} {kind : ℕ} {t : Tally} {at i : ℕ} {answers : List Bool} (t' : Tally) (at' : ℕ) (b : Bool)
    → Walked R l kind t at i answers → R (body_of l at kind) b → t' ≡ counted_of t b → at' ≡ next_of l at → Walked R l kind t' at' (i + 1) (answers ++ (b ∷ []))
unfolding place_of
walked-more {R} {l} {kind} {t} {at} {i} {answers} t' at' b w here e f =
    let same : at ≡ place_of l (length answers) = w.place ∙ ap (place_of l) (sym w.many) in
    record {
      many = omega (arith, length-append answers (b ∷ []), w.many);
      answered = answered-more R l kind answers b w.answered (subst (λ a. R (body_of l a kind) b) same here);
      counted = e ∙ ap (λ u. counted_of u b) w.counted ∙ sym (tally-more _ answers b);
      place = rw add-one (f ∙ ap (next_of l) w.place);
    }

pub walked-done : {R : List ℕ → Bool → Type 0} {l : List ℕ} {kind : ℕ} {t : Tally} {at i : ℕ} {answers : List Bool} (n : ℕ) (b : Bool) (r : Tally)
    → Walked R l kind t at i answers → i ≤ n → n ≤ i → b ≡ ends_at l at → r ≡ cond b t (counted_of t false)
    → (xs : List Bool) × (length xs ≡ n) × Answered R l kind xs × (r ≡ replayed l xs)
walked-done {l = l} {t = t} {at = at} {answers = answers} n b r w h k e f =
    let same : at ≡ place_of l (length answers) = w.place ∙ ap (place_of l) (sym w.many) in
    let end = e ∙ ap (ends_at l) same in
    let many : length answers ≡ n = omega (arith, w.many) in
    (answers, many, w.answered, f ∙ ap (λ u. cond b u (counted_of u false)) w.counted ∙ ap (λ c. cond c (tally_of answers) (counted_of (tally_of answers) false)) end)
