-- The two searches agree where a celled index has one cell whose coarse centre is zero.
use Prim.Native.Nat.{ℕ, suc, ◌*◌, ◌≤◌}
use mathlib.Core.Path.{◌≡◌, refl, sym, ◌∙◌, ap}
use mathlib.Core.Bool.{Bool, true, false, ◌&&◌, ◌||◌}
use mathlib.Core.List.{List, [], ◌∷◌}
use native.Mathlib.Nat.{zero-mul, zero-add, one-mul, sub-zero}
use native.Mathlib.Decide.{dec_lt}
use native.Mathlib.Omega.{arith}
use borrow.Author.Tests.{eq-eqb, le-leb}
use lib.ListN.{length, get_or-eq_default}
use lib.Dec.{T}
use lib.Ieee.{Float, nan, binary32, sub, add, fits}
use lib.Ieee.Scale.{finite}
use Rattle.std.specs.Prelude.{Ok}
use Rattle.std.proofs.Math.Bool.{or_comm, or_assoc}
use Rattle.lists.specs.Lists.{tab, fill, join}
use Rattle.lists.specs.Tests.{any_from, any_of, every}
use Rattle.lists.proofs.Tables.{length-tab, get_or-tab}
use Rattle.lists.proofs.Parts.{part-all}
use Rattle.lists.proofs.Tests.{none}
use Rattle.metrics.specs.Distance.{zero32, coordinate_in, coordinate}
use Rattle.metrics.proofs.Laws.{squared-ext}
use Rattle.answers.specs.declared.Refusal.TheVariants.{DistanceNotFinite}
use Rattle.neighbor.specs.Neighbor.{insert_by, insert_all}
use Rattle.pq_params.specs.Bounds.{bad_plain}
use Rattle.pq_params.specs.Lengths.{subs_long, table_long, plain_of, celled_of}
use Rattle.pq_params.specs.Refusals.{not_long}
use Rattle.pq_params.proofs.Refusing.{same-long, search-passed}
use Rattle.cell_codes.specs.Codes.{codes_sound}
use Rattle.cell_walk.specs.Candidates.{cell_finite, candidates}
use Rattle.cell_walk.specs.Results.{asked_of, unchanged, blank}
use Rattle.celled_lists.specs.Lists.{starts_sound, list_sound}
use Rattle.celled_probe.specs.Probe.{finite_cells, nearest_cells}
use Rattle.plain_search.specs.Outcome.{SearchIn, whole_cell, search_lengths, search_refusal, search_worked, search_outcome}
use Rattle.probed_cells.specs.Search.{Asked, starts_good, coarse_finite, probed, cell_at, members_at, cell_sound, probed_sound, probed_finite, all_candidates}
use Rattle.celled_search.specs.Outcome as Celled
use Rattle.policy.specs.OneCell.{one_cell, in_one_cell, farness, EachF32}
use Rattle.policy.proofs.Unless.{unless_same}
use Rattle.policy.proofs.Check.{long, list-sound}
use Rattle.policy.proofs.LessZero.{less_zero}

-- ---- tests 1 to 6 are the same

same-any : (s c q m : Bool) (rest : List Bool) → any_of (s ∷ c ∷ q ∷ m ∷ rest) ≡ any_of (q ∷ m ∷ s ∷ c ∷ rest)
same-any s c q m rest = ap (λ (b : Bool). any_from b rest) (or_assoc (s || c) q m ∙ or_comm (s || c) (q || m) ∙ sym (or_assoc (q || m) s c))

-- the bounds of one cell and one probe hold
same-bad : (b : Bool) → (b || false || false || false || false) ≡ b
same-bad true = refl
same-bad false = refl

-- test 4 of the plain search
abbrev lengths_of : SearchIn → List Bool
lengths_of i = search_lengths (plain_of i.shape i.n) i

module _ (i : SearchIn) where
  same-wrong : any_of (Celled.search_lengths (celled_of (one_cell i).shape i.n) (in_one_cell i)) ≡ any_of (lengths_of i)
  same-wrong =
      rw (
        long (fill zero32 i.shape.d) (1 * i.shape.d) (length-tab (λ (j : ℕ). zero32) i.shape.d ∙ sym (one-mul i.shape.d)),
        long (tab (λ (m : ℕ). m) i.n) i.n (length-tab (λ (m : ℕ). m) i.n),
        one-mul (subs_long i.shape),
      )
      (same-any (not_long i.subs (subs_long i.shape)) (not_long i.codes (i.n * i.shape.nsub)) (not_long i.query i.shape.d) (not_long i.mask i.n)
      (not_long i.lent.sums (asked_of i.lent) ∷ not_long i.lent.table (table_long i.shape) ∷ []))

  same-refusal : Celled.search_refusal (in_one_cell i) ≡ search_refusal i
  unfolding Celled.search_refusal search_refusal
  same-refusal = rw (same-bad (bad_plain i.shape), same-wrong)

-- ---- the one cell is the plain index's

module _ (l : List Float) (each : EachF32 l) where
  coordinate-fits : (j : ℕ) → T (fits binary32 (coordinate_in l j))
  unfolding fits
  coordinate-fits j = elim (dec_lt j (length l)) [
    | yes h ↦ each j h
    | no h ↦ let k : length l ≤ j = omega arith in rw (get_or-eq_default l nan k) tt
  ]

  -- x less the coordinates of the zero centre is x
  less-center : (d : ℕ) → length l ≡ d → (j : ℕ) → sub binary32 (coordinate_in l j) (coordinate (fill zero32 d) d 0 j) ≡ coordinate_in l j
  unfolding sub add
  less-center d e j = rw (zero-mul d, zero-add j) (elim (dec_lt j d) [
    | yes h ↦ rw (get_or-tab (λ (k : ℕ). zero32) d j nan h) (less_zero (coordinate_in l j) (coordinate-fits j))
    | no h ↦ let k : length l ≤ j = omega arith in rw (get_or-eq_default l nan k)
  ])

module _ (i : SearchIn) where
  abbrev a : Asked
  a = (in_one_cell i).asked

  all-rows : members_at a 0 ≡ tab (λ (m : ℕ). m) i.n
  all-rows = rw sub-zero (part-all (tab (λ (m : ℕ). m) i.n) i.n (length-tab (λ (m : ℕ). m) i.n))

  starts-good : starts_good a ≡ true
  unfolding starts_sound every
  starts-good = rw (eq-eqb i.n i.n refl, le-leb 0 i.n (omega arith))

  rows-sound : list_sound i.n (members_at a 0) ≡ true
  rows-sound =
      let self : ℕ → ℕ = λ m. m in
      let w = length-tab self i.n in
      rw all-rows
      (list-sound i.n (tab self i.n)
      (λ p h. rw (get_or-tab self i.n p 0 (omega arith)) (omega arith))
      (λ p h. rw (get_or-tab self i.n p 0 (omega arith), get_or-tab self i.n (suc p) 0 (omega arith)) (omega arith)))

  probed-one : probed a ≡ 0 ∷ []
  unfolding nearest_cells tab insert_by insert_all
  probed-one = refl

  coarse-one : coarse_finite a ≡ finite (farness i)
  unfolding finite_cells every
  coarse-one =
      ap finite (squared-ext (coordinate_in i.query) _ (coordinate (fill zero32 i.shape.d) i.shape.d 0) (λ (j : ℕ). zero32) i.shape.d (λ j h. refl)
      (λ j h. rw (zero-mul i.shape.d, zero-add j) (get_or-tab (λ (k : ℕ). zero32) i.shape.d j nan h)))

module _ (i : SearchIn) (each : EachF32 i.query) (fit : length i.query ≡ i.shape.d) where
  one-cell-is : cell_at (a i) 0 ≡ whole_cell i
  one-cell-is k = record {
    shape = i.shape;
    query = λ (j : ℕ). less-center i.query each i.shape.d fit j k;
    subs = i.subs;
    cell = 0;
    shown = (whole_cell i).shown;
    codes = i.codes;
    rows = all-rows i k;
  }

-- ---- the steps are the same

module _ (t : Asked) (e : probed t ≡ 0 ∷ []) where
  sound-one : probed_sound t ≡ cell_sound t 0
  unfolding probed_sound every
  sound-one = rw e

  finite-one : probed_finite t ≡ cell_finite (cell_at t 0)
  unfolding probed_finite every
  finite-one = rw e

  candidates-one : all_candidates t ≡ candidates (cell_at t 0)
  unfolding all_candidates join
  candidates-one = rw e

module _ (i : SearchIn) (each : EachF32 i.query) (fit : length i.query ≡ i.shape.d) (near : finite (farness i) ≡ true) where
  same-sound : probed_sound (a i) ≡ codes_sound (whole_cell i)
  same-sound = sound-one (a i) (probed-one i) ∙ ap (λ (t : Bool). t && codes_sound (cell_at (a i) 0)) (rows-sound i) ∙ ap codes_sound (one-cell-is i each fit)

  same-finite : probed_finite (a i) ≡ cell_finite (whole_cell i)
  same-finite = finite-one (a i) (probed-one i) ∙ ap cell_finite (one-cell-is i each fit)

  same-candidates : all_candidates (a i) ≡ candidates (whole_cell i)
  same-candidates = candidates-one (a i) (probed-one i) ∙ ap candidates (one-cell-is i each fit)

  same-worked : Celled.search_worked (a i) i.lent ≡ search_worked (whole_cell i) i.lent
  unfolding Celled.search_worked search_worked
  same-worked = rw (starts-good i, coarse-one i ∙ near, same-sound, same-finite, same-candidates)

module _ (i : SearchIn) where
  query-long : search_refusal i ≡ Ok tt → length i.query ≡ i.shape.d
  unfolding search_refusal
  query-long e = same-long i.query i.shape.d (none (lengths_of i) (search-passed _ _ _ _ _ e).right 0)

  -- The plain index is the celled one with one cell whose centre is zero, where the query's distance from zero is finite.
  pub one-cell : EachF32 i.query → (search_refusal i ≡ Ok tt → finite (farness i) ≡ true) → Celled.search_outcome (in_one_cell i) ≡ search_outcome i
  unfolding Celled.search_outcome search_outcome
  one-cell each near =
      rw (same-refusal i)
      (unless_same (search_refusal i) _ _ (unchanged i.lent) (λ e. same-worked i each (query-long e) (near e)))

  -- Else step 2 refuses it in the celled index.
  pub one-cell-far : search_refusal i ≡ Ok tt → finite (farness i) ≡ false → Celled.search_outcome (in_one_cell i) ≡ blank i.lent DistanceNotFinite
  unfolding Celled.search_outcome Celled.search_worked
  one-cell-far e far = rw (same-refusal i, e, starts-good i, coarse-one i ∙ far)
