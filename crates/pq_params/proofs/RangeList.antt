-- The list of ranges is as document 01 says, its words allow no other, and in refusal 1 every pair is 0, 0.
use Prim.Native.Nat.{ℕ, zero, suc, ◌+◌, ◌-◌, ◌≤◌, ◌<◌}
use mathlib.Core.Path.{◌≡◌, refl, sym, ◌∙◌, ap}
use mathlib.Core.Bool.{true, false}
use mathlib.Core.List.{List, [], ◌∷◌}
use native.Mathlib.Decide.{dec_lt}
use native.Mathlib.Omega.{arith}
use lib.ListN.{length, get_or}
use lib.Seq.{ext_get_or}
use Rattle.lists.specs.Lists.{fill}
use Rattle.lists.proofs.Tables.{length-tab, get_or-tab, tab-ext}
use Rattle.pq_params.specs.Bounds.{bad_range}
use Rattle.pq_params.specs.Ranges.{long_ranges, width_of, begin_of, end_of, pair_at, ranges_of}
use Rattle.pq_params.specs.RangesRight.{RangesRight, begin_in, end_in}
use Rattle.pq_params.proofs.Bounds.{range-bounds}
use Rattle.pq_params.proofs.RangeRule.{short-some, long-few, begin-zero, begin-next, width-long, width-short, width_some, covered-is, covered-within, pair-used, pair-unused}

module _ (d nsub : ℕ) where
  pub length-ranges : length (ranges_of d nsub) ≡ 64
  unfolding ranges_of
  length-ranges = length-tab (pair_at d nsub) 64

  -- place i of the list
  pub place_is : (i : ℕ) → i < 64 → get_or (ranges_of d nsub) i [] ≡ pair_at d nsub i
  unfolding ranges_of
  place_is i h = get_or-tab (pair_at d nsub) 64 i [] h

  -- in refusal 1 all are 0, 0
  pub ranges-refused : bad_range d nsub ≡ true → ranges_of d nsub ≡ fill (0 ∷ 0 ∷ []) 64
  unfolding ranges_of
  ranges-refused bad = tab-ext (pair_at d nsub) (λ (i : ℕ). 0 ∷ 0 ∷ []) 64 (λ i h. pair-unused d nsub i (rw bad (omega arith)))

-- a list that is a pair, by its begin and end
pair_of : (p : List ℕ) (a b : ℕ) → p ≡ a ∷ b ∷ [] → p ≡ get_or p 0 0 ∷ get_or p 1 0 ∷ []
pair_of p a b e = rw e

module _ (d nsub : ℕ) (good : bad_range d nsub ≡ false) where
  place-used : (i : ℕ) → i < nsub → get_or (ranges_of d nsub) i [] ≡ begin_of d nsub i ∷ end_of d nsub i ∷ []
  place-used i h = place_is d nsub i (omega (arith, (range-bounds d nsub good).nsub-most)) ∙ pair-used d nsub i (record { good = good; below = h })

  place-unused : (i : ℕ) → nsub ≤ i → i < 64 → get_or (ranges_of d nsub) i [] ≡ 0 ∷ 0 ∷ []
  place-unused i h k = place_is d nsub i k ∙ pair-unused d nsub i (rw good h)

  -- begin and end of a range in the list
  pub begin-in : (i : ℕ) → i < nsub → begin_in (ranges_of d nsub) i ≡ begin_of d nsub i
  begin-in i h = ap (λ (p : List ℕ). get_or p 0 0) (place-used i h)

  pub end-in : (i : ℕ) → i < nsub → end_in (ranges_of d nsub) i ≡ end_of d nsub i
  end-in i h = ap (λ (p : List ℕ). get_or p 1 0) (place-used i h)

  place-pair : (i : ℕ) → i < 64 → get_or (ranges_of d nsub) i [] ≡ begin_in (ranges_of d nsub) i ∷ end_in (ranges_of d nsub) i ∷ []
  place-pair i k = elim (dec_lt i nsub) [
    | yes h ↦ pair_of _ _ _ (place-used i h)
    | no h ↦ pair_of _ _ _ (place-unused i (omega arith) k)
  ]

  -- range i ends its width after its begin
  end_is : (i w : ℕ) → i < nsub → width_of d nsub i ≡ w → end_in (ranges_of d nsub) i ≡ begin_in (ranges_of d nsub) i + w
  end_is i w h e = omega (arith, begin-in i h, end-in i h, begin-next d nsub i)

  -- the list is as document 01 says
  pub ranges-right : RangesRight d nsub (ranges_of d nsub)
  ranges-right =
      let b = range-bounds d nsub good in
      let few = long-few d nsub good in
      let c = covered-is d nsub good in
      let at_last : suc (nsub - 1) ≡ nsub = omega arith in
      record {
        places = length-ranges d nsub;
        pairs = place-pair;
        short-some = short-some d nsub good;
        long-few = few;
        from_zero = begin-in 0 b.nsub-some ∙ begin-zero d nsub;
        no_gap = λ i h. begin-in (suc i) h ∙ sym (end-in i (omega arith));
        long = λ i h. end_is i _ (omega arith) (width-long d nsub i h);
        short = λ i h k. end_is i _ k (width-short d nsub i h);
        not-empty = λ i h. omega (arith, end_is i _ h refl, width_some d nsub good i);
        last = end-in (nsub - 1) (omega arith) ∙ ap (λ (k : ℕ). begin_of d nsub k) at_last ∙ c;
        within = omega (arith, covered-within d nsub good);
        unused = place-unused;
      }

-- two lists of which document 01's words hold are the same
module _ (d nsub : ℕ) (l m : List (List ℕ)) (p : RangesRight d nsub l) (q : RangesRight d nsub m) where
  same_end : (i : ℕ) → i < nsub → begin_in l i ≡ begin_in m i → end_in l i ≡ end_in m i
  same_end i h e = elim (dec_lt i (long_ranges d nsub)) [
    | yes k ↦ omega (arith, p.long i k, q.long i k)
    | no k ↦ omega (arith, p.short i (omega arith) h, q.short i (omega arith) h)
  ]

  same-begin : (i : ℕ) → i < nsub → begin_in l i ≡ begin_in m i
  same-begin zero h = p.from_zero ∙ sym q.from_zero
  same-begin (suc i) h =
      let k : i < nsub = omega arith in
      p.no_gap i h ∙ same_end i k (same-begin i k) ∙ sym (q.no_gap i h)

  same_place : (i : ℕ) → i < 64 → get_or l i [] ≡ get_or m i []
  same_place i k = elim (dec_lt i nsub) [
    | yes h ↦ p.pairs i k ∙ rw (same-begin i h, same_end i h (same-begin i h)) (sym (q.pairs i k))
    | no h ↦ p.unused i (omega arith) k ∙ sym (q.unused i (omega arith) k)
  ]

  pub ranges-same : l ≡ m
  ranges-same = ext_get_or [] l m (p.places ∙ sym q.places) (λ i h. same_place i (omega (arith, p.places)))
