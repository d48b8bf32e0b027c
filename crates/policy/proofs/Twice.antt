-- On an index that passes the whole check no row comes twice.
use Prim.Native.Nat.{ℕ, zero, suc, ◌+◌, ◌-◌, ◌≤◌, ◌<◌}
use mathlib.Core.Path.{◌≡◌, refl, sym, ◌∙◌, ap}
use mathlib.Core.Bool.{Bool, true, false, cond, not}
use mathlib.Core.List.{List, [], ◌∷◌, ◌++◌, map, map-append}
use native.Mathlib.Decide.{dec_lt}
use native.Mathlib.Omega.{arith}
use lib.ListN.{length, get_or, take, length-take, length-map, get_or-append}
use lib.Seq.{get_or-take}
use lib.Ieee.{Float}
use Rattle.answers.specs.declared.Refusal.TheVariants.{DistanceNotFinite}
use Rattle.lists.specs.Lists.{tab, fill, join}
use Rattle.lists.proofs.Tables.{map-tab, length-tab, get_or-tab}
use Rattle.lists.proofs.TakeDrop.{map-take}
use Rattle.lists.proofs.Parts.{get_or-part, within-part}
use Rattle.lists.proofs.Rising.{Rises, rises-keep}
use Rattle.neighbor.specs.declared.Candidate.{Candidate}
use Rattle.neighbor.specs.Neighbor.{comes_before, insert_by, insert_all, ordered, first_of, row_of, blank_row}
use Rattle.cell_codes.specs.Codes.{visible, visible_rows}
use Rattle.cell_sums.specs.Sums.{sum_at}
use Rattle.cell_walk.specs.Candidates.{candidates}
use Rattle.cell_walk.specs.Results.{Lent, asked_of, unchanged, blank, answered}
use Rattle.celled_lists.specs.Index.{Index}
use Rattle.celled_lists.specs.Lists.{start_of}
use Rattle.celled_lists.proofs.Starts.{starts-rise}
use Rattle.celled_probe.specs.Probe.{cell_candidate, nearest_cells}
use Rattle.probed_cells.specs.Search.{Asked, cell_at, coarse_distance, probed, probed_at, probed_cell, coarse_finite, probed_finite, all_candidates}
use Rattle.celled_search.specs.Outcome.{SearchIn, search_refusal, search_outcome}
use Rattle.policy.specs.Check.{Passes, HoldsAt, StandsIn, list_at}
use Rattle.policy.specs.Results.{NoRowTwice}
use Rattle.policy.proofs.Unless.{unless_all}
use Rattle.policy.proofs.Standing.{in_head, in_tail, in-cases, not-in-nil, rises-from, keep-from}
use Rattle.policy.proofs.Check.{starts-sound}
use Rattle.policy.proofs.Passing.{checked, sound, no_cell, list-rising, row_below}
use Rattle.policy.proofs.Policy.{undamaged}

-- ---- lists in which no row stands twice

abbrev Distinct : List ℕ → Type 0
Distinct [] = Unit {0}
Distinct (x ∷ l) = (StandsIn l x → ⊥) × Distinct l

distinct-places : (l : List ℕ) → Distinct l → (p q : ℕ) → p < length l → q < length l → get_or l p 0 ≡ get_or l q 0 → p ≡ q
distinct-places [] d p q h k e = absurd (omega arith)
distinct-places (x ∷ l) d zero zero h k e = refl
distinct-places (x ∷ l) d zero (suc q) h k e = absurd (d.0 (q, record { within = omega arith; held = sym e }))
distinct-places (x ∷ l) d (suc p) zero h k e = absurd (d.0 (p, record { within = omega arith; held = e }))
distinct-places (x ∷ l) d (suc p) (suc q) h k e = ap suc (distinct-places l d.1 p q (omega arith) (omega arith) e)

places-distinct : (l : List ℕ) → ((p q : ℕ) → p < length l → q < length l → get_or l p 0 ≡ get_or l q 0 → p ≡ q) → Distinct l
places-distinct [] u = tt
places-distinct (x ∷ l) u = (
  λ s. omega (arith, u 0 (suc s.0) (omega arith) (omega arith) (sym s.1.held)),
  places-distinct l (λ p q h k e. omega (arith, u (suc p) (suc q) (omega arith) (omega arith) e)),
)

distinct-take : (k : ℕ) (l : List ℕ) → Distinct l → Distinct (take k l)
distinct-take k l d =
    places-distinct (take k l)
    (λ p q h j e.
    let w = length-take k l in
    distinct-places l d p q (omega arith) (omega arith) (sym (get_or-take k l p 0 (omega arith)) ∙ e ∙ get_or-take k l q 0 (omega arith)))

rises-distinct : (l : List ℕ) (b : ℕ) → Rises b l → Distinct l
rises-distinct [] b r = tt
rises-distinct (x ∷ l) b r = (λ s. omega (arith, rises-from l (suc x) x s.0 r.1 s.1), rises-distinct l (suc x) r.1)

in-append {ℓ} : {B : Type ℓ} (k l : List ℕ) (m p : ℕ) → HoldsAt (k ++ l) m p → (StandsIn k m → B) → (StandsIn l m → B) → B
in-append [] l m p h f g = g (p, h)
in-append (x ∷ k) l m p h f g =
    in-cases x (k ++ l) m p h (λ e. f (in_head k e)) (λ s. in-append k l m s.0 s.1 (λ t. f (in_tail x k m t)) g)

distinct_append : (k l : List ℕ) → Distinct k → Distinct l → ((m : ℕ) → StandsIn k m → StandsIn l m → ⊥) → Distinct (k ++ l)
distinct_append [] l d e u = e
distinct_append (x ∷ k) l d e u =
    (λ s. in-append k l x s.0 s.1 d.0 (u x (in_head k refl)), distinct_append k l d.1 e (λ m s. u m (in_tail x k m s)))

-- ---- the rows of candidates

abbrev rows_of : List Candidate → List ℕ
rows_of l = map row_of l

module _ (b : Candidate → Candidate → Bool) where
  in_insert {ℓ} : {B : Type ℓ} (c : Candidate) (l : List Candidate) (m p : ℕ) → HoldsAt (rows_of (insert_by b c l)) m p → (c.row ≡ m → B) → (StandsIn (rows_of l) m → B) → B
  unfolding insert_by
  in_insert c [] m p h f g = in-cases c.row [] m p h f g
  in_insert {B = B} c (d ∷ l) m p h f g = go (b c d) h (λ q k g. in_insert c l m q k f g)
    where
      go : (t : Bool) → HoldsAt (rows_of (cond t (c ∷ d ∷ l) (d ∷ insert_by b c l))) m p
          → ((q : ℕ) → HoldsAt (rows_of (insert_by b c l)) m q → (StandsIn (rows_of l) m → B) → B) → B
      go true h r = in-cases c.row (rows_of (d ∷ l)) m p h f g
      go false h r = in-cases d.row (rows_of (insert_by b c l)) m p h (λ e. g (in_head (rows_of l) e))
          (λ s. r s.0 s.1 (λ t. g (in_tail d.row (rows_of l) m t)))

  distinct-insert : (c : Candidate) (l : List Candidate) → Distinct (rows_of l) → (StandsIn (rows_of l) c.row → ⊥) → Distinct (rows_of (insert_by b c l))
  unfolding insert_by
  distinct-insert c [] e u = (u, tt)
  distinct-insert c (d ∷ l) e u = go (b c d) (distinct-insert c l e.1 (λ s. u (in_tail d.row (rows_of l) c.row s)))
    where
      go : (t : Bool) → Distinct (rows_of (insert_by b c l)) → Distinct (rows_of (cond t (c ∷ d ∷ l) (d ∷ insert_by b c l)))
      go true r = (u, e)
      go false r = (λ s. in_insert c l d.row s.0 s.1 (λ q. u (in_head (rows_of l) (sym q))) e.0, r)

  distinct-all : (l cs : List Candidate) → Distinct (rows_of l) → Distinct (rows_of cs) → ((m : ℕ) → StandsIn (rows_of l) m → StandsIn (rows_of cs) m → ⊥)
      → Distinct (rows_of (insert_all b l cs))
  unfolding insert_all
  distinct-all l [] d e u = d
  distinct-all l (c ∷ cs) d e u =
      distinct-all (insert_by b c l) cs (distinct-insert c l d (λ s. u c.row s (in_head (rows_of cs) refl))) e.1
      (λ m s t. in_insert c l m s.0 s.1 (λ q. e.0 (rw q t)) (λ v. u m v (in_tail c.row (rows_of cs) m t)))

distinct-ordered : (cs : List Candidate) → Distinct (rows_of cs) → Distinct (rows_of (ordered cs))
distinct-ordered cs d = distinct-all comes_before [] cs tt d (λ m s t. not-in-nil s.1)

module _ (g : ℕ → List Candidate) where
  in-join : (n m p : ℕ) → HoldsAt (rows_of (join g n)) m p → (q : ℕ) × (q < n) × StandsIn (rows_of (g q)) m
  unfolding join
  in-join zero m p h = absurd (not-in-nil h)
  in-join (suc n) m p h =
      in-append (rows_of (join g n)) (rows_of (g n)) m p (rw (map-append row_of (join g n) (g n)) at h)
      (λ s. let w = in-join n m s.0 s.1 in (w.0, omega arith, w.2))
      (λ s. (n, omega arith, s))

  distinct-join : (n : ℕ) → ((p : ℕ) → Distinct (rows_of (g p)))
      → ((m p q : ℕ) → p < n → q < n → StandsIn (rows_of (g p)) m → StandsIn (rows_of (g q)) m → p ≡ q) → Distinct (rows_of (join g n))
  unfolding join
  distinct-join zero d u = tt
  distinct-join (suc n) d u =
      rw (map-append row_of (join g n) (g n))
      (distinct_append (rows_of (join g n)) (rows_of (g n)) (distinct-join n d (λ m p q h k. u m p q (omega arith) (omega arith))) (d n)
      (λ m s t. let w = in-join n m s.0 s.1 in omega (arith, u m w.0 n (omega arith) (omega arith) w.2 t)))

rows_back : (f : ℕ → Float) (l : List ℕ) → rows_of (map (λ (m : ℕ). record { sum = f m; row = m }) l) ≡ l
rows_back f [] = refl
rows_back f (x ∷ l) = ap (λ (t : List ℕ). x ∷ t) (rows_back f l)

-- ---- a row stands in one cell

module _ (x : Index) (passes : Passes x) where
  rise : (c d : ℕ) → c ≤ d → d ≤ x.shape.cells → start_of x.starts c ≤ start_of x.starts d
  rise = starts-rise x.starts x.shape.cells x.n (starts-sound x (sound x passes))

  is-cell : (c m : ℕ) → StandsIn (list_at x c) m → c < x.shape.cells
  is-cell c m s = elim (dec_lt c x.shape.cells) [
    | yes h ↦ h
    | no h ↦ absurd (not-in-nil (rw (no_cell x passes c (omega arith)) at s.1))
  ]

  -- its place among the members lies between the starts of its cell and of the next
  place_of : (c m : ℕ) → StandsIn (list_at x c) m
      → (p : ℕ) × (start_of x.starts c ≤ p) × (p < start_of x.starts (suc c)) × HoldsAt x.members m p
  place_of c m s =
      let a = start_of x.starts c in
      let w = start_of x.starts (suc c) - a in
      let k = within-part x.members a w s.0 s.1.within in
      (a + s.0, omega arith, omega arith, record { within = k.1; held = sym (get_or-part x.members a w s.0 0 k.0) ∙ s.1.held })

  one-cell : (m c d : ℕ) → StandsIn (list_at x c) m → StandsIn (list_at x d) m → c ≡ d
  one-cell m c d s t =
      let p = place_of c m s in
      let q = place_of d m t in
      let e = (checked x passes).order.once m (row_below x passes c m s) p.0 q.0 p.3 q.3 in
      elim (dec_lt c d) [
        | yes h ↦ absurd (omega (arith, rise (suc c) d h (omega (arith, is-cell d m t))))
        | no h ↦ elim (dec_lt d c) [
          | yes k ↦ absurd (omega (arith, rise (suc d) c k (omega (arith, is-cell c m s))))
          | no k ↦ omega arith
        ]
      ]

-- ---- no row comes twice

tab-distinct : (n : ℕ) → Distinct (tab (λ (c : ℕ). c) n)
tab-distinct n =
    places-distinct (tab (λ (c : ℕ). c) n)
    (λ p q h k e.
    let w = length-tab (λ (c : ℕ). c) n in
    sym (get_or-tab (λ (c : ℕ). c) n p 0 (omega arith)) ∙ e ∙ get_or-tab (λ (c : ℕ). c) n q 0 (omega arith))

-- no cell is probed twice
nearest-distinct : (f : ℕ → Float) (cells probes : ℕ) → Distinct (nearest_cells f cells probes)
unfolding nearest_cells
nearest-distinct f cells probes =
    let all : Distinct (rows_of (tab (cell_candidate f) cells)) = rw (map-tab row_of (cell_candidate f) cells) (tab-distinct cells) in
    distinct-take probes _ (distinct-ordered (tab (cell_candidate f) cells) all)

probed-distinct : (a : Asked) → Distinct (probed a)
probed-distinct a = nearest-distinct (coarse_distance a) a.index.shape.cells a.index.shape.probes

module _ (a : Asked) (passes : Passes a.index) where
  candidate-rows : (c : ℕ) → rows_of (candidates (cell_at a c)) ≡ visible_rows (cell_at a c)
  unfolding candidates
  candidate-rows c = rows_back (sum_at (cell_at a c)) (visible_rows (cell_at a c))

  candidate-cell : (c m : ℕ) → StandsIn (rows_of (candidates (cell_at a c))) m → StandsIn (list_at a.index c) m
  candidate-cell c m s = (keep-from (visible a.mask) (list_at a.index c) m (rw (candidate-rows c) at s)).0

  all-distinct : Distinct (rows_of (all_candidates a))
  unfolding all_candidates
  all-distinct =
      distinct-join (λ (p : ℕ). candidates (probed_cell a p)) (length (probed a))
      (λ p. rw (candidate-rows (probed_at a p))
      (rises-distinct (visible_rows (probed_cell a p)) 0 (rises-keep (visible a.mask) (list_at a.index (probed_at a p)) 0 (list-rising a.index passes (probed_at a p)))))
      (λ m p q h k s t. distinct-places (probed a) (probed-distinct a) p q h k
      (one-cell a.index passes m (probed_at a p) (probed_at a q) (candidate-cell (probed_at a p) m s) (candidate-cell (probed_at a q) m t)))

either {ℓ κ} : {A : Type ℓ} (P : A → Type κ) (t : Bool) (x y : A) → P x → P y → P (cond t x y)
either P true x y f g = f
either P false x y f g = g

answered-once : (l : Lent) (cs : List Candidate) → Distinct (rows_of cs) → NoRowTwice (answered l cs)
answered-once l cs d p q h k e =
    let t = first_of (asked_of l) cs in
    let w = length-map t row_of in
    let f = fill blank_row (asked_of l - length t) in
    let dt : Distinct (rows_of t) = rw (map-take row_of (asked_of l) (ordered cs)) (distinct-take (asked_of l) (rows_of (ordered cs)) (distinct-ordered cs d)) in
    distinct-places (rows_of t) dt p q (omega arith) (omega arith)
    (sym (get_or-append (rows_of t) f 0 p (omega arith)) ∙ e ∙ get_or-append (rows_of t) f 0 q (omega arith))

pub no-row-twice : (i : SearchIn) → Passes i.asked.index → NoRowTwice (search_outcome i)
unfolding search_outcome
no-row-twice i passes =
    let l = i.lent in
    let blanked : NoRowTwice (blank l DistanceNotFinite) = λ p q h k e. absurd (omega arith) in
    unless_all NoRowTwice (search_refusal i) _ (unchanged l)
    (rw (undamaged i.asked passes l)
    (either NoRowTwice (not (coarse_finite i.asked)) _ _ blanked
    (either NoRowTwice (not (probed_finite i.asked)) _ _ blanked (answered-once l (all_candidates i.asked) (all-distinct i.asked passes)))))
    (λ r p q h k e. absurd (omega arith))
