-- Demand 3: two searches of a celled index that differ in nothing that is visible have one outcome.
use Prim.Native.Nat.{ℕ, ◌<◌}
use mathlib.Core.Path.{◌≡◌, sym, ◌∙◌, ap, ap₂, subst}
use mathlib.Core.Bool.{Bool, true, cond, not}
use mathlib.Core.List.{List}
use native.Mathlib.Decide.{dec_lt}
use native.Mathlib.Omega.{arith}
use lib.ListN.{length}
use Rattle.lists.specs.Tests.{keep}
use Rattle.lists.proofs.Joins.{join-ext}
use Rattle.lists.proofs.Tests.{and_both, every_of, every-ext}
use Rattle.neighbor.specs.declared.Candidate.{Candidate}
use Rattle.answers.specs.declared.Refusal.TheVariants.{DistanceNotFinite}
use Rattle.pq_params.specs.Codes.{codes_below}
use Rattle.cell_codes.specs.Codes.{visible, visible_rows}
use Rattle.cell_walk.specs.Candidates.{cell_finite, candidates}
use Rattle.cell_walk.specs.Results.{Lent, blank, answered}
use Rattle.celled_lists.specs.Index.{Index}
use Rattle.probed_cells.specs.Search.{Asked, coarse_finite, probed, probed_at, cell_at, cell_sound, probed_sound, probed_cell, probed_finite, all_candidates}
use Rattle.celled_search.specs.Outcome.{SearchIn, search_refusal, search_worked, search_outcome}
use Rattle.policy.specs.Check.{Passes, list_at}
use Rattle.policy.specs.Sight.{InSight}
use Rattle.policy.specs.Policy.{SameCells, SameCodes, AlikeInSight}
use Rattle.policy.proofs.Standing.{keep_same}
use Rattle.policy.proofs.Check.{starts-sound, codes-sound, long}
use Rattle.policy.proofs.Passing.{checked, sound, no_cell, list_of, list-rising, row_below}
use Rattle.policy.proofs.Cells.{shown_at, shown-stands, same-finite, same-candidates}

-- ---- a search of an index that passes the whole check

module _ (a : Asked) (passes : Passes a.index) where
  in-sight : (c i : ℕ) → i < length (visible_rows (cell_at a c)) → InSight a.index.n a.mask (shown_at (cell_at a c) i)
  in-sight c i h =
      let s = shown-stands (cell_at a c) i h in
      record { there = row_below a.index passes c (shown_at (cell_at a c) i) s.0; shown = s.1 }

  cell-sound : (c : ℕ) → cell_sound a c ≡ true
  cell-sound c =
      and_both (list_of a.index passes c)
      (every_of (λ (i : ℕ). codes_below a.index.codes a.index.shape.plain (shown_at (cell_at a c) i)) (length (visible_rows (cell_at a c)))
      (λ i h. codes-sound a.index (sound a.index passes) (shown_at (cell_at a c) i) (in-sight c i h).there))

  probed-sound : probed_sound a ≡ true
  unfolding probed_sound
  probed-sound = every_of (λ (p : ℕ). cell_sound a (probed_at a p)) (length (probed a)) (λ p h. cell-sound (probed_at a p))

  -- it meets no damage: refusal 10 is not given
  pub undamaged : (l : Lent)
      → search_worked a l ≡ cond (not (coarse_finite a)) (blank l DistanceNotFinite) (cond (not (probed_finite a)) (blank l DistanceNotFinite) (answered l (all_candidates a)))
  unfolding search_worked
  undamaged l = rw (starts-sound a.index (sound a.index passes), probed-sound)

-- ---- two searches that are alike in sight

-- what is asked, and what is lent for it
abbrev pub lent_for : Asked → Lent → SearchIn
lent_for a l = record { asked = a; lent = l }

-- what a asks, of an index with the lists and codes of x
abbrev pub relisted : Asked → Index → Asked
relisted a x = record {
  index = record {
    shape = a.index.shape;
    n = a.index.n;
    coarse = a.index.coarse;
    starts = x.starts;
    members = x.members;
    subs = a.index.subs;
    codes = x.codes;
  };
  query = a.query;
  mask = a.mask;
}

module _ (a : Asked) (x : Index) (first : Passes a.index) (second : Passes (relisted a x).index) (cells : SameCells a x)
    (codes : SameCodes a x) where
  same_rows : (c : ℕ) → visible_rows (cell_at a c) ≡ visible_rows (cell_at (relisted a x) c)
  same_rows c = elim (dec_lt c a.index.shape.cells) [
    | yes h ↦ keep_same (visible a.mask) (list_at a.index c) (list_at x c) (list-rising a.index first c) (list-rising (relisted a x).index second c)
        (λ m e s. (cells m c (record { there = row_below a.index first c m s; shown = e }) h).0 s)
        (λ m e s. (cells m c (record { there = row_below (relisted a x).index second c m s; shown = e }) h).1 s)
    | no h ↦ ap (keep (visible a.mask)) (no_cell a.index first c (omega arith) ∙ sym (no_cell (relisted a x).index second c (omega arith)))
  ]

  cell-finite : (c : ℕ) → cell_finite (cell_at a c) ≡ cell_finite (cell_at (relisted a x) c)
  cell-finite c = same-finite (cell_at a c) x.codes (list_at x c) (same_rows c) (λ i s h. codes (shown_at (cell_at a c) i) s (in-sight a first c i h))

  cell-candidates : (c : ℕ) → candidates (cell_at a c) ≡ candidates (cell_at (relisted a x) c)
  cell-candidates c = same-candidates (cell_at a c) x.codes (list_at x c) (same_rows c) (λ i s h. codes (shown_at (cell_at a c) i) s (in-sight a first c i h))

  same-worked : (l : Lent) → search_worked a l ≡ search_worked (relisted a x) l
  unfolding probed_finite all_candidates
  same-worked l =
      undamaged a first l
      ∙ ap₂ (λ (f : Bool) (cs : List Candidate). cond (not (coarse_finite a)) (blank l DistanceNotFinite) (cond (not f) (blank l DistanceNotFinite) (answered l cs)))
      (every-ext (λ (p : ℕ). cell_finite (probed_cell a p)) _ (length (probed a)) (λ p h. cell-finite (probed_at a p)))
      (join-ext (λ (p : ℕ). candidates (probed_cell a p)) _ (length (probed a)) (λ p h. cell-candidates (probed_at a p)))
      ∙ sym (undamaged (relisted a x) second l)

  -- the lists and codes of both are of their lengths, and all else that is tested is equal
  same-refusal : (l : Lent) → search_refusal (lent_for a l) ≡ search_refusal (lent_for (relisted a x) l)
  unfolding search_refusal
  same-refusal l =
      let p = (checked a.index first).lengths in
      let q = (checked (relisted a x).index second).lengths in
      rw (
        long a.index.starts _ p.starts,
        long a.index.members _ p.members,
        long a.index.codes _ p.codes,
        long x.starts _ q.starts,
        long x.members _ q.members,
        long x.codes _ q.codes,
      )

  same_outcome : (l : Lent) → search_outcome (lent_for a l) ≡ search_outcome (lent_for (relisted a x) l)
  unfolding search_outcome
  same_outcome l = rw (same-refusal l, same-worked l)

-- what is equal in both is all of b but its lists and codes
only-lists : (a b : SearchIn) → AlikeInSight a b → lent_for (relisted a.asked b.asked.index) a.lent ≡ b
only-lists a b e i = record {
  asked = record {
    index = record {
      shape = record { plain = record { d = e.d i; nsub = e.nsub i; bits = e.bits i }; cells = e.cells i; probes = e.probes i };
      n = e.n i;
      coarse = e.coarse i;
      starts = b.asked.index.starts;
      members = b.asked.index.members;
      subs = e.subs i;
      codes = b.asked.index.codes;
    };
    query = e.query i;
    mask = e.mask i;
  };
  lent = e.lent i;
}

-- Hidden rows change nothing: the refusal, row numbers, sums, counts and every result byte are the same.
pub row-policy : (a b : SearchIn) → AlikeInSight a b → search_outcome a ≡ search_outcome b
row-policy a b e =
    let p = only-lists a b e in
    let second = subst Passes (sym (ap (λ (t : SearchIn). t.asked.index) p)) e.second in
    same_outcome a.asked b.asked.index e.first second e.same-cells e.same_codes a.lent ∙ ap search_outcome p
