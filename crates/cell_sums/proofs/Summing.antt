-- Laws on the sums of picked rows: the entries lie within the table, and a list of which a front is mapped in place, by elements or by parts.
use Rattle.std.proofs.Common.{◌≡◌, ℕ, suc, ◌+◌, ◌*◌, ◌≤◌, ◌<◌, List, [], ◌∷◌, ◌++◌, map, length, get_or, set, take, drop, sym, ◌∙◌, ap, ap₂, add-one, append_assoc, length-take, arith}
use borrow.Author.Tests.{ltb-true}
use lib.ListN.{length-map, drop_of_length-le}
use mathlib.Core.List.{append-nil}
use lib.Seq.{take_all, drop_at, drop-cons, take-suc, get_or_at, set_at}
use Rattle.std.proofs.Common.{take-append-drop}
use Rattle.std.proofs.lemmas.List.{get_or-map, map-append, take-take, drop-take, drop-drop}
use Rattle.std.specs.Prelude.{Bool, true, false, cond, Some, None, Float, refl}
use Rattle.std.specs.Float.{nan, binary32}
use Rattle.std.specs.Float.Ieee.{add}
use Rattle.std.specs.Float.Ieee.Scale.{finite}
use Rattle.lists.specs.Lists.{tab, part, put_part}
use Rattle.lists.specs.Tests.{every}
use Rattle.lists.proofs.Parts.{put-seam, get_or-part, within-part}
use Rattle.lists.proofs.Tables.{length-tab, get_or-tab, tab-step, tab-rest}
use Rattle.lists.proofs.Tests.{every_true, every-ext}
use Rattle.lists.proofs.Joins.{within}
use Rattle.metrics.specs.Distance.{zero32, sum_to}
use Rattle.neighbor.specs.declared.Candidate.{Candidate}
use Rattle.neighbor.specs.Neighbor.{row_of}
use Rattle.neighbor.specs.Held.{candidate_at}
use Rattle.cell_table.specs.TablesInner.{finite_at}
use Rattle.cell_codes.specs.Codes.{code_at, of_all}
use Rattle.cell_codes.specs.CodesInner.{code_under}
use Rattle.cell_sums.specs.declared.Sums.{Sums}
use Rattle.cell_sums.specs.SumsInner.{Coded, sum_by, CodedBy, AllCoded, four_of, candidate_by, with_sums}

-- what stands past a list's end
abbrev no_candidate : Candidate
no_candidate = record { sum = nan; row = 0 }

-- the entry of sub-space s lies within the table
pub inside : (codes : List ℕ) (table : List Float) (nsub centers m s : ℕ) → Coded codes table nsub centers m → s < nsub → s * centers + code_at codes nsub m s < length table
inside codes table nsub centers m s C h =
    omega (arith, C.table-long, within s nsub centers h, ltb-true (code_at codes nsub m s) centers (every_true (code_under codes nsub centers m) nsub C.under s h))

-- one term more
pub sum-more : (f : ℕ → Float) (s : ℕ) (sum : Float) → sum ≡ sum_to f s → add binary32 sum (f s) ≡ sum_to f (s + 1)
unfolding sum_to
sum-more f s sum e = rw (add-one, e)

-- one term more in the k-th of four sums
pub four-more : (term : ℕ → ℕ → Float) (m : List ℕ) (s k : ℕ) (o sums : List Float) (x : Float) → o ≡ four_of (λ (r : ℕ). sum_to (term r) s) m → k < 4
    → sums ≡ tab (λ (i : ℕ). sum_to (term (get_or m i 0)) (s + 1)) k ++ drop k o → x ≡ term (get_or m k 0) s
    → set sums k (add binary32 (get_or sums k nan) x) ≡ tab (λ (i : ℕ). sum_to (term (get_or m i 0)) (s + 1)) (k + 1) ++ drop (k + 1) o
four-more term m s k o sums x e h f p =
    let g = λ (i : ℕ). sum_to (term (get_or m i 0)) (s + 1) in
    let l : length o ≡ 4 = ap length e ∙ length-tab (λ (i : ℕ). sum_to (term (get_or m i 0)) s) 4 in
    let q : get_or sums k nan ≡ sum_to (term (get_or m k 0)) s = tab-rest g k o sums nan f ∙ ap (λ (t : List Float). get_or t k nan) e ∙ get_or-tab (λ (i : ℕ). sum_to (term (get_or m i 0)) s) 4 k nan h in
    tab-step g k o sums _ nan (omega arith) f (rw p (sum-more (term (get_or m k 0)) s _ q))

-- ---- a front that is mapped in place

module _ {A : Type 0} (h : A → A) (o : List A) where
  abbrev pub mapped_to : ℕ → List A
  mapped_to i = map h (take i o) ++ drop i o

  front-long : (i : ℕ) → i ≤ length o → length (map h (take i o)) ≡ i
  front-long i l = omega (arith, length-map (take i o) h, length-take i o)

  -- an element behind the front is as it was
  pub mapped_at : (i : ℕ) (l : List A) (d : A) → i < length o → l ≡ mapped_to i → get_or l i d ≡ get_or o i d
  mapped_at i l d k e =
      rw (e, drop-cons o i d k) (get_or_at (map h (take i o)) (get_or o i d) (drop (suc i) o) d i (front-long i (omega arith)))

  -- one element more
  pub mapped-step : (i : ℕ) (l : List A) (x d : A) → i < length o → l ≡ mapped_to i → x ≡ h (get_or o i d) → set l i x ≡ mapped_to (i + 1)
  mapped-step i l x d k e p =
      rw (e, drop-cons o i d k, p)
      (set_at (map h (take i o)) (get_or o i d) (drop (suc i) o) (h (get_or o i d)) i (front-long i (omega arith))
      ∙ sym (append_assoc (map h (take i o)) (h (get_or o i d) ∷ []) (drop (suc i) o))
      ∙ rw (add-one, take-suc o i d k, map-append h (take i o) (get_or o i d ∷ [])))

  -- what is behind the front
  pub mapped-drop : (i : ℕ) (l : List A) → i ≤ length o → l ≡ mapped_to i → drop i l ≡ drop i o
  mapped-drop i l k e = rw e (drop_at (map h (take i o)) (drop i o) i (front-long i k))

  take-more : (i w : ℕ) → take i o ++ take w (drop i o) ≡ take (i + w) o
  take-more i w = ap₂ (λ (p q : List A). p ++ q) (sym (take-take i (i + w) o (omega arith))) (sym (drop-take i w o)) ∙ take-append-drop i (take (i + w) o)

  -- w elements more, as a part
  pub mapped-part : (i w : ℕ) (l : List A) → i ≤ length o → l ≡ mapped_to i → put_part l i w (map h (take w (drop i l))) ≡ mapped_to (i + w)
  mapped-part i w l k e =
      let m = map h (take i o) in
      let p = map h (take w (drop i o)) in
      rw (mapped-drop i l k e)
      (ap (λ (t : List A). put_part t i w p) e
      ∙ put-seam m (drop i o) p i w (front-long i k)
      ∙ sym (append_assoc m p (drop w (drop i o)))
      ∙ rw (← map-append h (take i o) (take w (drop i o)), take-more i w, drop-drop w i o))

  -- all of it
  pub mapped-done : (i : ℕ) (l : List A) → length o ≤ i → l ≡ mapped_to i → l ≡ map h o
  mapped-done i l k e = e ∙ rw (take_all i o k, drop_of_length-le o k, append-nil)

-- ---- the rows of picked candidates

-- four rows, read one by one
pub four-rows : (l : List Candidate) (a b c e : ℕ) → length l ≡ 4 → a ≡ (candidate_at l 0).row → b ≡ (candidate_at l 1).row → c ≡ (candidate_at l 2).row → e ≡ (candidate_at l 3).row
    → (a ∷ b ∷ c ∷ e ∷ []) ≡ map row_of l
four-rows [] a b c e l p q r s = absurd (omega arith)
four-rows (_ ∷ []) a b c e l p q r s = absurd (omega arith)
four-rows (_ ∷ _ ∷ []) a b c e l p q r s = absurd (omega arith)
four-rows (_ ∷ _ ∷ _ ∷ []) a b c e l p q r s = absurd (omega arith)
four-rows (_ ∷ _ ∷ _ ∷ _ ∷ []) a b c e l p q r s = rw (p, q, r, s)
four-rows (_ ∷ _ ∷ _ ∷ _ ∷ _ ∷ _) a b c e l p q r s = absurd (omega arith)

module _ (t : Sums) (o : List Candidate) (C : AllCoded t (map row_of o)) where
  abbrev with_sum : Candidate → Candidate
  with_sum c = candidate_by (sum_by t) c.row

  -- a picked row has its codes
  pub coded-at : (i : ℕ) (l : List Candidate) (m : ℕ) → i < length o → l ≡ mapped_to with_sum o i → m ≡ (candidate_at l i).row → CodedBy t m
  coded-at i l m h e p =
      let q : m ≡ get_or (map row_of o) i 0 = p ∙ ap row_of (mapped_at with_sum o i l _ h e) ∙ sym (get_or-map row_of o i _ 0 h) in
      rw q (C i (omega (arith, length-map o row_of)))

  -- so have those of a part behind the front
  pub coded-part : (i w : ℕ) (l : List Candidate) → i ≤ length o → l ≡ mapped_to with_sum o i → AllCoded t (map row_of (take w (drop i l)))
  unfolding part
  coded-part i w l h e = rw (mapped-drop with_sum o i l h e) go
    where
      go : AllCoded t (map row_of (part o i w))
      go k g =
          let j : k < length (part o i w) = omega (arith, length-map (part o i w) row_of, g) in
          let b = within-part o i w k j in
          let q : get_or (map row_of (part o i w)) k 0 ≡ get_or (map row_of o) (i + k) 0 =
          get_or-map row_of (part o i w) k no_candidate 0 j ∙ ap row_of (get_or-part o i w k no_candidate b.0) ∙ sym (get_or-map row_of o (i + k) no_candidate 0 b.1) in
          rw q (C (i + k) (omega (arith, length-map o row_of, b.1)))

  -- a sum is stored
  pub stored-step : (i : ℕ) (l : List Candidate) (v : Float) → i < length o → l ≡ mapped_to with_sum o i → v ≡ sum_by t (candidate_at l i).row
      → set l i (record { sum = v; row = (candidate_at l i).row }) ≡ mapped_to with_sum o (i + 1)
  stored-step i l v h e p =
      let q : candidate_at l i ≡ candidate_at o i = mapped_at with_sum o i l no_candidate h e in
      let u : v ≡ sum_by t (candidate_at o i).row = p ∙ ap (λ (c : Candidate). sum_by t c.row) q in
      mapped-step with_sum o i l _ no_candidate h e (λ j. record { sum = u j; row = (q j).row })

  -- the k-th of four sums
  pub four-at : (m : List ℕ) (sums : List Float) (k : ℕ) (l : List Candidate) → sums ≡ four_of (sum_by t) m → m ≡ map row_of o → length o ≡ 4 → k < 4 → l ≡ mapped_to with_sum o k
      → get_or sums k nan ≡ sum_by t (candidate_at l k).row
  four-at m sums k l e p n h f =
      let j : k < length o = omega arith in
      ap (λ (s : List Float). get_or s k nan) e
      ∙ get_or-tab (λ (i : ℕ). sum_by t (get_or m i 0)) 4 k nan h
      ∙ ap (sum_by t) (rw p (get_or-map row_of o k no_candidate 0 j) ∙ ap row_of (sym (mapped_at with_sum o k l no_candidate j f)))

-- the mark says that not all are finite, and else all are
pub marked-all : (b : Bool) → None ≡ cond b (Some zero32) None → b ≡ false
marked-all true e = cc
marked-all false e = refl

pub unmarked-all : (b : Bool) (v : Float) → Some v ≡ cond b (Some zero32) None → b ≡ true
unmarked-all true v e = refl
unmarked-all false v e = cc

-- whether all sums are finite, those of the first n being all
pub all-summed : (all : Bool) (n : ℕ) (f : ℕ → Float) (o l : List Candidate) → l ≡ with_sums f o → n ≡ length l → all ≡ every (λ (i : ℕ). finite (candidate_at l i).sum) n
    → all ≡ of_all (finite_at f) (map row_of o)
all-summed all n f o l e q p =
    let h : Candidate → Candidate = λ c. candidate_by f c.row in
    p
    ∙ rw (q, e, length-map o h, length-map o row_of)
    (every-ext _ _ (length o)
    (λ i k. ap (λ (c : Candidate). finite c.sum) (get_or-map h o i no_candidate no_candidate k) ∙ ap (λ (m : ℕ). finite (f m)) (sym (get_or-map row_of o i no_candidate 0 k))))
