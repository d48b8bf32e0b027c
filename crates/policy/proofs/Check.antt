-- The whole check's definition says what document 01 says.
use Prim.Native.Nat.{ℕ, suc, ◌+◌, ◌≤◌, ◌<◌}
use mathlib.Core.Path.{◌≡◌, refl, sym, ◌∙◌}
use mathlib.Core.Logic.{◌↔◌}
use mathlib.Core.Bool.{Bool, true, false, cond}
use mathlib.Core.List.{List, [], ◌∷◌}
use native.Mathlib.Omega.{arith}
use borrow.Author.Tests.{ltb-true, le-ltb, le-leb, eqb-true, eq-eqb, ne_eqb}
use lib.ListN.{length, get_or}
use lib.Dec.{eqb}
use Rattle.std.specs.Prelude.{Ok}
use Rattle.lists.specs.Lists.{part}
use Rattle.lists.specs.Tests.{every, rising}
use Rattle.lists.proofs.Parts.{get_or-part, within-part}
use Rattle.lists.proofs.Counting.{under, counted, count-found, count-once, once-count, count-full, count-below}
use Rattle.lists.proofs.Rising.{rising-true, rising-of}
use Rattle.lists.proofs.Tests.{none, none_left, and_l, and_r, and_both, every_true, every_of, every-below, below-every}
use Rattle.pq_params.specs.Bounds.{bad_celled, centers_of}
use Rattle.pq_params.specs.Lengths.{celled_of}
use Rattle.pq_params.specs.Codes.{code_at, codes_below}
use Rattle.pq_params.specs.Refusals.{not_long, check_tests}
use Rattle.pq_params.proofs.Bounds.{range-bounds, plain-bounds, celled-bounds}
use Rattle.pq_params.proofs.Refusing.{same-long, check-passed}
use Rattle.celled_lists.specs.Index.{Index, index_lengths}
use Rattle.celled_lists.specs.Lists.{start_of, never_falls, starts_sound, is_below, list_sound, places}
use Rattle.celled_lists.proofs.Starts.{first-start, last-start, next_start}
use Rattle.celled_lists.proofs.Lengths.{sized}
use Rattle.celled_check.specs.Check.{cell_sound, stands_once, index_sound, CheckIn, CheckOut, check_lengths, check_refusal, unchanged, accepted, damaged, checked, check_outcome}
use Rattle.policy.specs.Check.{InBounds, HoldsAt, StandsIn, EachBelow, EachBelowNext, list_at, InOrder, Acceptable}
use Rattle.policy.proofs.Unless.{unless_done}

-- ---- a row stands once

-- whether place p holds row m
abbrev holds : List ℕ → ℕ → ℕ → Bool
holds l m p = eqb (get_or l p 0) m

module _ (l : List ℕ) (m : ℕ) where
  pub stands-counted : StandsIn l m → 0 < places l m
  stands-counted s = counted (holds l m) (length l) s.0 s.1.within (eq-eqb (get_or l s.0 0) m s.1.held)

  pub counted-stands : 0 < places l m → StandsIn l m
  counted-stands h =
      let s = count-found (holds l m) (length l) h in
      (s.0, record { within = s.1; held = eqb-true (get_or l s.0 0) m s.2 })

  once-stands : eqb (places l m) 1 ≡ true → StandsIn l m
  once-stands e = counted-stands (omega (arith, eqb-true (places l m) 1 e))

  once-only : eqb (places l m) 1 ≡ true → (p q : ℕ) → HoldsAt l m p → HoldsAt l m q → p ≡ q
  once-only e p q h k =
      count-once (holds l m) (length l) (omega (arith, eqb-true (places l m) 1 e)) p q h.within k.within
      (eq-eqb (get_or l p 0) m h.held) (eq-eqb (get_or l q 0) m k.held)

  stands-once : StandsIn l m → ((p q : ℕ) → HoldsAt l m p → HoldsAt l m q → p ≡ q) → eqb (places l m) 1 ≡ true
  stands-once s u =
      let at : (p : ℕ) → p < length l → holds l m p ≡ true → HoldsAt l m p = λ p h e. record { within = h; held = eqb-true (get_or l p 0) m e } in
      let most = once-count (holds l m) (length l) (λ p q h k e g. u p q (at p h e) (at q k g)) in
      eq-eqb (places l m) 1 (omega (arith, stands-counted s))

-- a row that stands equally often in two lists stands in the one exactly if in the other
pub stands_alike : (k l : List ℕ) (m : ℕ) → places k m ≡ places l m → StandsIn k m ↔ StandsIn l m
stands_alike k l m e =
    (λ s. counted-stands l m (omega (arith, stands-counted k m s)), λ s. counted-stands k m (omega (arith, stands-counted l m s)))

-- ---- a list is sound

module _ (n : ℕ) (l : List ℕ) where
  pub list-sound : EachBelow n l → EachBelowNext l → list_sound n l ≡ true
  unfolding list_sound
  list-sound b r = and_both (below-every (λ (i : ℕ). get_or l i 0) (λ (i : ℕ). n) (length l) b) (rising-of l r)

  pub list-below : list_sound n l ≡ true → EachBelow n l
  unfolding list_sound
  list-below e = every-below (λ (i : ℕ). get_or l i 0) (λ (i : ℕ). n) (length l) (and_l _ (rising l) e)

  pub list-rises : list_sound n l ≡ true → EachBelowNext l
  unfolding list_sound
  list-rises e = rising-true l (and_r (every (is_below l n) (length l)) _ e)

-- ---- the index is sound

module _ (x : Index) where
  pub starts-sound : index_sound x ≡ true → starts_sound x.starts x.shape.cells x.n ≡ true
  unfolding index_sound
  starts-sound e = search (and_l, and_r)

  pub lists-sound : index_sound x ≡ true → (c : ℕ) → c < x.shape.cells → list_sound x.n (list_at x c) ≡ true
  unfolding index_sound
  lists-sound e = every_true (cell_sound x.starts x.members x.n) x.shape.cells (search (and_l, and_r))

  rows-once : index_sound x ≡ true → (m : ℕ) → m < x.n → stands_once x.members m ≡ true
  unfolding index_sound
  rows-once e = every_true (stands_once x.members) x.n (search (and_l, and_r))

  pub codes-sound : index_sound x ≡ true → (m : ℕ) → m < x.n → codes_below x.codes x.shape.plain m ≡ true
  unfolding index_sound
  codes-sound e = every_true (codes_below x.codes x.shape.plain) x.n (search (and_l, and_r))

  starts-of : InOrder x → starts_sound x.starts x.shape.cells x.n ≡ true
  unfolding starts_sound
  starts-of o =
      and_both (and_both (eq-eqb (start_of x.starts 0) 0 o.first-start) (eq-eqb (start_of x.starts x.shape.cells) x.n o.last-start))
      (every_of (never_falls x.starts) x.shape.cells
      (λ c h. le-leb (start_of x.starts c) (start_of x.starts (suc c)) (o.never-fall c h)))

  sound-of : InOrder x → index_sound x ≡ true
  unfolding index_sound
  sound-of o =
      and_both (and_both (and_both (starts-of o)
      (every_of (cell_sound x.starts x.members x.n) x.shape.cells (λ c h. list-sound x.n (list_at x c) (o.below c h) (o.rises c h))))
      (every_of (stands_once x.members) x.n (λ m h. stands-once x.members m (o.stands m h) (o.once m h))))
      (every_of (codes_below x.codes x.shape.plain) x.n
      (λ m h. below-every (code_at x.codes x.shape.plain.nsub m) (λ (s : ℕ). centers_of x.shape.plain.bits) x.shape.plain.nsub (o.codes-below m h)))

  order-of : index_sound x ≡ true → InOrder x
  order-of e =
      let s = starts-sound e in
      record {
        first-start = first-start x.starts x.shape.cells x.n s;
        last-start = last-start x.starts x.shape.cells x.n s;
        never-fall = next_start x.starts x.shape.cells x.n s;
        stands = λ m h. once-stands x.members m (rows-once e m h);
        once = λ m h. once-only x.members m (rows-once e m h);
        rises = λ c h. list-rises x.n (list_at x c) (lists-sound e c h);
        below = λ c h. list-below x.n (list_at x c) (lists-sound e c h);
        codes-below = λ m h. every-below (code_at x.codes x.shape.plain.nsub m) (λ (s : ℕ). centers_of x.shape.plain.bits) x.shape.plain.nsub (codes-sound e m h);
      }

  pub check-exact : (index_sound x ≡ true) ↔ InOrder x
  check-exact = (order-of, sound-of)

-- ---- that members are below n follows from the rest

-- where every row number below n stands once among n members, no other number does
members-below : (l : List ℕ) (n : ℕ) → length l ≡ n → ((m : ℕ) → m < n → StandsIn l m)
    → ((m : ℕ) → m < n → (p q : ℕ) → HoldsAt l m p → HoldsAt l m q → p ≡ q) → EachBelow n l
members-below l n e s u i h =
    ltb-true (get_or l i 0) n
    (count-full (under (λ (p : ℕ). get_or l p 0) n) (length l)
    (count-below (λ (p : ℕ). get_or l p 0) (length l) n (λ m k. eqb-true (places l m) 1 (stands-once l m (s m k) (u m k))) ∙ sym e) i h)

part-below : (l : List ℕ) (n a w : ℕ) → EachBelow n l → EachBelow n (part l a w)
part-below l n a w b i h = let k = within-part l a w i h in rw (get_or-part l a w i 0 k.0) (b (a + i) k.1)

pub below-follows : (x : Index) → length x.members ≡ x.n → ((m : ℕ) → m < x.n → StandsIn x.members m)
    → ((m : ℕ) → m < x.n → (p q : ℕ) → HoldsAt x.members m p → HoldsAt x.members m q → p ≡ q) → (c : ℕ) → EachBelow x.n (list_at x c)
below-follows x e s u c = part-below x.members x.n _ _ (members-below x.members x.n e s u)

-- ---- the bounds and the lengths hold

module _ (x : Index) where
  pub bounds_of : bad_celled x.shape ≡ false → x.n ≤ 100_001 → InBounds x
  bounds_of e f =
      let celled = celled-bounds x.shape e in
      let plain = plain-bounds x.shape.plain celled.plain in
      let range = range-bounds x.shape.plain.d x.shape.plain.nsub plain.range in
      omega arith

  tests-of : InBounds x → bad_celled x.shape ≡ false
  tests-of b =
      rw (
        ne_eqb x.shape.plain.d 0 (omega arith),
        le-ltb 256 x.shape.plain.d b.d-most,
        ne_eqb x.shape.plain.nsub 0 (omega arith),
        le-ltb 64 x.shape.plain.nsub b.nsub-most,
        le-ltb x.shape.plain.d x.shape.plain.nsub b.nsub-of-d,
        le-ltb 8 x.shape.plain.bits b.bits_most,
        ne_eqb x.shape.cells 0 (omega arith),
        le-ltb 1024 x.shape.cells b.cells-most,
        ne_eqb x.shape.probes 0 (omega arith),
        le-ltb x.shape.cells x.shape.probes b.probes-most,
      )

pub long {ℓ} : {A : Type ℓ} (l : List A) (n : ℕ) → length l ≡ n → not_long l n ≡ false
long l n e = rw (eq-eqb (length l) n e)

-- ---- the whole check accepts exactly that

abbrev Accepts : CheckOut → Type 0
Accepts o = o.answer ≡ Ok tt

accepted-sound : (i : CheckIn) (u : Bool) → Accepts (cond u (accepted i) (damaged i)) → u ≡ true
accepted-sound i true h = refl
accepted-sound i false h = cc

module _ (i : CheckIn) where
  acceptable-of : (check_outcome i).answer ≡ Ok tt → Acceptable i
  unfolding check_outcome
  acceptable-of e =
      let a = unless_done Accepts (check_refusal i) (checked i) (unchanged i) (λ r h. cc) e in
      let passed = check-passed _ _ _ a.0 in
      let l = sized i.index (none_left (index_lengths i.index) (not_long i.work (celled_of i.index.shape i.index.n).work ∷ []) passed.right) in
      record {
        bounds = bounds_of i.index passed.good passed.rows_few;
        lengths = record {
          coarse = l.coarse-long;
          starts = l.starts-long;
          members = l.members-long;
          subs = l.subs-long;
          codes = l.codes-long;
          work = same-long i.work _ (none (check_lengths i) passed.right 5);
        };
        order = order-of i.index (accepted-sound i (index_sound i.index) a.1);
      }

  accepted-of : Acceptable i → (check_outcome i).answer ≡ Ok tt
  unfolding check_outcome check_tests
  accepted-of a =
      let x : Index = i.index in
      let l = a.lengths in
      rw (
        tests-of x a.bounds,
        le-ltb 100_001 x.n a.bounds.n-most,
        long x.coarse _ l.coarse,
        long x.starts _ l.starts,
        long x.members _ l.members,
        long x.subs _ l.subs,
        long x.codes _ l.codes,
        long i.work _ l.work,
        sound-of x a.order,
      )

  pub accepts-exact : ((check_outcome i).answer ≡ Ok tt) ↔ Acceptable i
  accepts-exact = (acceptable-of, accepted-of)
