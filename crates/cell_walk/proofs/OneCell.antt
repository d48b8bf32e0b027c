-- Laws on the search in one cell: the sums by the table that was worked are the definition's, and each end is that of the definition.
use Prim.Native.Nat.{ℕ, ◌<◌}
use mathlib.Core.Path.{◌≡◌, refl, sym, ◌∙◌, ap}
use mathlib.Core.Bool.{Bool, true, false}
use mathlib.Core.List.{List, [], ◌∷◌, ◌++◌, map}
use native.Mathlib.Omega.{arith}
use borrow.Author.Tests.{eqb-true, ltb-true}
use lib.ListN.{length, take, drop, take-append-drop}
use lib.Seq.{take_all}
use lib.Dec.{eqb}
use lib.Ieee.{Float, nan}
use lib.Ieee.Scale.{finite}
use Rattle.std.specs.Prelude.{Ok, Err}
use Rattle.answers.specs.declared.Refusal.{Refusal}
use Rattle.answers.specs.declared.Refusal.TheVariants.{DistanceNotFinite}
use Rattle.answers.specs.Answers.{Searched}
use Rattle.lists.specs.Lists.{tab, fill, grid}
use Rattle.lists.specs.Tests.{keep}
use Rattle.lists.proofs.Tables.{map-ext}
use Rattle.lists.proofs.Joins.{get_or-grid, length-grid}
use Rattle.lists.proofs.Tests.{every-ext, every_true}
use Rattle.metrics.specs.Distance.{zero32}
use Rattle.metrics.proofs.Laws.{sum-ext}
use Rattle.neighbor.specs.Neighbor.{comes_before, insert_all, row_of, sum_of, result_rows, result_sums}
use Rattle.neighbor.specs.Held.{held, Held}
use Rattle.neighbor.proofs.Held.{length-held, held_rows, held-sums}
use Rattle.pq_params.specs.Bounds.{centers_of}
use Rattle.pq_params.specs.Lengths.{table_long}
use Rattle.cell_table.specs.declared.CellView.{CellView}
use Rattle.cell_table.specs.Tables.{Cell, entry_at, table_finite}
use Rattle.cell_table.specs.TablesInner.{finite_at, Tabled}
use Rattle.cell_table.proofs.Marks.{ok-finite, err-broken}
use Rattle.cell_codes.specs.Codes.{row_at, visible, visible_rows, code_at, codes_sound, cell_of}
use Rattle.cell_codes.specs.CodesInner.{code_under, codes_under, sound_at, Rows}
use Rattle.cell_codes.proofs.Shown.{kept-all}
use Rattle.cell_codes.proofs.CodesTest.{sound-rows}
use Rattle.cell_sums.specs.Sums.{sum_at, sums_finite}
use Rattle.cell_sums.specs.SumsInner.{table_term, candidate_by}
use Rattle.cell_walk.specs.Candidates.{nothing_shown, cell_finite, candidates}
use Rattle.cell_walk.specs.Results.{lent, search_out, answer_of}
use Rattle.cell_walk.specs.CellInner.{kept_of, table_after, cell_outcome}
use Rattle.cell_walk.specs.WalkInner.{candidates_to, finite_to, Scanned}
use Rattle.cell_stretch.specs.StretchInner.{sums_of, Ready}

-- ---- sums that agree at the shown rows

module _ (f f' : ℕ → Float) (v : ℕ → Bool) (g : ℕ → ℕ) (n : ℕ) (same : (k : ℕ) → k < n → v (g k) ≡ true → f (g k) ≡ f' (g k)) where
  candidates-same : candidates_to f v g n ≡ candidates_to f' v g n
  candidates-same =
      map-ext 0 (candidate_by f) (candidate_by f') (keep v (tab g n))
      (λ i h. kept-all v g (λ (m : ℕ). candidate_by f m ≡ candidate_by f' m) n (λ k l e. λ t. record { sum = same k l e t; row = g k }) i h)

  finite-same : finite_to f v g n ≡ finite_to f' v g n
  finite-same =
      every-ext _ _ (length (keep v (tab g n)))
      (λ i h. kept-all v g (λ (m : ℕ). finite_at f m ≡ finite_at f' m) n (λ k l e. ap finite (same k l e)) i h)

-- ---- the sums by the table

module _ (z : CellView) (centers : ℕ) (K : centers ≡ centers_of z.shape.bits) where
  -- the walk may begin
  pub ready : (table : List Float) → Rows z → codes_sound (cell_of z) ≡ true → length table ≡ table_long z.shape → Ready z centers table
  ready table R s l = record { rows-of = R; table-long = rw K l; sound = sound-rows z centers K ∙ s }

  module _ (s : codes_sound (cell_of z) ≡ true) (table : List Float) (T : table ≡ grid (entry_at (cell_of z)) z.shape.nsub (centers_of z.shape.bits)) where
    sum-here : (k : ℕ) → k < z.n → visible z.mask.now (row_at z k) ≡ true → sums_of z centers table (row_at z k) ≡ sum_at (cell_of z) (row_at z k)
    sum-here k h v = sum-ext _ _ z.shape.nsub term
      where
        m : ℕ
        m = row_at z k

        under : codes_under z.codes.now z.shape.nsub centers m ≡ true
        under = rw v at (every_true (sound_at z centers) z.n (sound-rows z centers K ∙ s) k h)

        term : (i : ℕ) → i < z.shape.nsub → table_term table z.codes.now z.shape.nsub centers m i ≡ entry_at (cell_of z) i (code_at z.codes.now z.shape.nsub m i)
        term i l =
            let q : code_at z.codes.now z.shape.nsub m i < centers = ltb-true _ _ (every_true (code_under z.codes.now z.shape.nsub centers m) z.shape.nsub under i l) in
            rw (T, K) (get_or-grid (entry_at (cell_of z)) z.shape.nsub (centers_of z.shape.bits) i (code_at z.codes.now z.shape.nsub m i) nan l (rw K at q))

    pub candidates-here : candidates_to (sums_of z centers table) (visible z.mask.now) (row_at z) z.n ≡ candidates (cell_of z)
    unfolding candidates
    candidates-here = candidates-same (sums_of z centers table) (sum_at (cell_of z)) (visible z.mask.now) (row_at z) z.n sum-here

    pub sums-here : finite_to (sums_of z centers table) (visible z.mask.now) (row_at z) z.n ≡ sums_finite (cell_of z)
    sums-here = finite-same (sums_of z centers table) (sum_at (cell_of z)) (visible z.mask.now) (row_at z) z.n sum-here

-- ---- the ends

-- a list of none
nothing-in : (l : List ℕ) → eqb (length l) 0 ≡ true → l ≡ []
nothing-in [] e = refl
nothing-in (x ∷ l) e = let z = eqb-true (length (x ∷ l)) 0 e in absurd (omega arith)

module _ (c : Cell) (rows : List ℕ) (sums : List Float) (found : ℕ) (table : List Float) where
  -- no row is shown
  pub cell_hidden : Held rows sums found → nothing_shown c ≡ true → search_out (answer_of found 0) rows sums table ≡ cell_outcome c (lent rows sums table) found
  unfolding cell_outcome cell_finite candidates insert_all
  cell_hidden H e =
      let v : visible_rows c ≡ [] = nothing-in (visible_rows c) e in
      let l = held rows sums found in
      let C : [] ≡ candidates c = rw v in
      let k : l ≡ kept_of c (lent rows sums table) found =
      sym (take_all (length rows) l (omega (arith, length-held rows sums found, H.within))) ∙ ap (λ (cs : List _). take (length rows) (insert_all comes_before l cs)) C in
      let n : found ≡ length (kept_of c (lent rows sums table) found) = sym (length-held rows sums found) ∙ ap length k in
      let R : rows ≡ map row_of (kept_of c (lent rows sums table) found) ++ drop (length (kept_of c (lent rows sums table) found)) rows =
      sym (take-append-drop found rows) ∙ ap (λ (p : List ℕ). p ++ drop found rows) (sym (held_rows rows sums found H.within) ∙ ap (map row_of) k) ∙ ap (λ (i : ℕ). map row_of (kept_of c (lent rows sums table) found) ++ drop i rows) n in
      let S : sums ≡ map sum_of (kept_of c (lent rows sums table) found) ++ drop (length (kept_of c (lent rows sums table) found)) sums =
      sym (take-append-drop found sums) ∙ ap (λ (p : List Float). p ++ drop found sums) (sym (held-sums rows sums found (omega (arith, H.within, H.even))) ∙ ap (map sum_of) k) ∙ ap (λ (i : ℕ). map sum_of (kept_of c (lent rows sums table) found) ++ drop i sums) n in
      let T : table ≡ table_after c table = rw e in
      (λ t. search_out (answer_of (n t) (length (C t))) (R t) (S t) (T t)) ∙ rw e

  module _ (rows' : List ℕ) (sums' table' : List Float) (shown : nothing_shown c ≡ false) where
    -- the table is refused
    pub cell-broken : (why : Refusal) → why ≡ DistanceNotFinite → table_finite c ≡ false → rows' ≡ result_rows (length rows) [] → sums' ≡ result_sums (length rows) [] → table' ≡ fill zero32 (length table)
        → search_out (Err why) rows' sums' table' ≡ cell_outcome c (lent rows sums table) found
    unfolding cell_outcome cell_finite
    cell-broken why w t R S T = (λ i. search_out (Err (w i)) (R i) (S i) (T i)) ∙ rw (shown, t)

    -- the rows are walked with the cell's sums
    pub cell-walked : (f : ℕ → Float) (g : ℕ → ℕ) (n : ℕ) (mid : List Float) (r : Searched) → table_finite c ≡ true → mid ≡ grid (entry_at c) c.shape.nsub (centers_of c.shape.bits)
        → length mid ≡ length table → finite_to f c.shown g n ≡ sums_finite c → candidates_to f c.shown g n ≡ candidates c
        → Scanned f c.shown g n rows sums found mid rows' sums' table' r → search_out r rows' sums' table' ≡ cell_outcome c (lent rows sums table) found
    unfolding cell_outcome cell_finite
    cell-walked f g n mid r t M L F C W = go (sums_finite c) refl
      where
        go : (b : Bool) → sums_finite c ≡ b → search_out r rows' sums' table' ≡ cell_outcome c (lent rows sums table) found
        go true e =
            let d : finite_to f c.shown g n ≡ true = F ∙ e in
            let kept = kept_of c (lent rows sums table) found in
            let A : r ≡ answer_of (length kept) (length (candidates c)) = W.answer ∙ rw (d, C) in
            let R : rows' ≡ map row_of kept ++ drop (length kept) rows = W.rows_are ∙ rw (d, C) in
            let S : sums' ≡ map sum_of kept ++ drop (length kept) sums = W.sums-are ∙ rw (d, C) in
            let T : table' ≡ table_after c table = W.table_is ∙ rw d (M ∙ rw shown) in
            (λ i. search_out (A i) (R i) (S i) (T i)) ∙ rw (shown, t, e)
        go false e =
            let d : finite_to f c.shown g n ≡ false = F ∙ e in
            let A : r ≡ Err DistanceNotFinite = W.answer ∙ rw d in
            let R : rows' ≡ result_rows (length rows) [] = W.rows_are ∙ rw d in
            let S : sums' ≡ result_sums (length rows) [] = W.sums-are ∙ rw d in
            let T : table' ≡ fill zero32 (length table) = W.table_is ∙ rw (d, L) in
            (λ i. search_out (A i) (R i) (S i) (T i)) ∙ rw (shown, t, e)

-- ---- the table

-- it is refused, and zero
module _ (c : Cell) (table mid : List Float) (why : Refusal) (T : Tabled (entry_at c) c.shape mid (Err why)) where
  pub table-broken : table_finite c ≡ false
  table-broken = (err-broken _ why T.answer).0

  pub table-why : why ≡ DistanceNotFinite
  table-why = (err-broken _ why T.answer).1

  pub table-zero : length table ≡ table_long c.shape → mid ≡ fill zero32 (length table)
  table-zero l = T.entries ∙ rw (table-broken, l)

-- it stands
module _ (c : Cell) (table mid : List Float) (T : Tabled (entry_at c) c.shape mid (Ok tt)) where
  pub table-finite : table_finite c ≡ true
  table-finite = ok-finite _ T.answer

  pub table-stands : mid ≡ grid (entry_at c) c.shape.nsub (centers_of c.shape.bits)
  table-stands = T.entries ∙ rw table-finite

  pub table-as-long : length table ≡ table_long c.shape → length mid ≡ length table
  table-as-long l = ap length table-stands ∙ length-grid (entry_at c) c.shape.nsub (centers_of c.shape.bits) ∙ sym l
