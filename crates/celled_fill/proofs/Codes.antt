-- The codes that a walk of the lists puts in: those of one cell after those of the cells before it, and those of all rows.
use Prim.Native.Nat.{ℕ, zero, suc, ◌+◌, ◌*◌, ◌≤◌, ◌<◌}
use mathlib.Core.Path.{◌≡◌, refl, sym, ◌∙◌}
use mathlib.Core.List.{List}
use mathlib.Core.Bool.{false}
use native.Mathlib.Nat.{add-zero, add-suc}
use native.Mathlib.Decide.{dec_lt}
use native.Mathlib.Numerals.{add-one}
use native.Mathlib.Omega.{arith}
use lib.ListN.{length, get_or}
use lib.Ieee.{Float, nan}
use Rattle.std.specs.Prelude.{Some}
use Rattle.lists.specs.Lists.{part, put_part, tab, grid}
use Rattle.lists.proofs.Tables.{last_or, length-tab, get_or-tab, tab-ext}
use Rattle.lists.proofs.Parts.{get_or-part, get_or-put_part-in, get_or-put_part-before, get_or-put_part-after, length-put_part}
use Rattle.lists.proofs.Joins.{within, grid-self, grid-ext}
use Rattle.metrics.specs.Distance.{value_of, value_in}
use Rattle.pq_params.specs.declared.CelledShape.{CelledShape}
use Rattle.pq_params.specs.Bounds.{bad_plain, centers_of}
use Rattle.pq_params.specs.Ranges.{begin_of, width_of, on_range}
use Rattle.pq_params.proofs.Bounds.{plain-bounds}
use Rattle.pq_params.proofs.RangeRule.{begin-next, begin-within}
use Rattle.kmeans_assign.proofs.Choosing.{chosen-ext}
use Rattle.pq_train.specs.Training.{row_at}
use Rattle.pq_train.specs.Inner.{stretch_at, stretch_long, code_by}
use Rattle.celled_fill.specs.Fill.{cell_at, less_center, cell_subs, code_of, filled_code}
use Rattle.celled_fill.specs.FillInner.{coded_to, cell_code}

-- ---- a walk of a list, by any code

module _ (code : ℕ → ℕ → ℕ) (nsub : ℕ) (list codes : List ℕ) where
  -- no row is passed, and one more
  pub coded_none : codes ≡ coded_to code nsub list 0 codes
  unfolding coded_to
  coded_none = refl

  pub coded-more : (k m : ℕ) → m ≡ get_or list k 0
      → put_part (coded_to code nsub list k codes) (m * nsub) nsub (tab (code m) nsub) ≡ coded_to code nsub list (k + 1) codes
  unfolding coded_to
  coded-more k m e = rw (e, add-one)

  module _ (n : ℕ) (l : length codes ≡ n * nsub) (below : (k : ℕ) → k < n → get_or list k 0 < n) where
    coded-long : (k : ℕ) → k ≤ n → length (coded_to code nsub list k codes) ≡ n * nsub
    unfolding coded_to
    coded-long zero h = l
    coded-long (suc k) h =
        let m = get_or list k 0 in
        let w = coded-long k (omega arith) in
        length-put_part (coded_to code nsub list k codes) (tab (code m) nsub) (m * nsub) nsub (omega (arith, within m n nsub (below k h))) (length-tab (code m) nsub) ∙ w

    -- a row that is passed has its codes
    coded-at : (k p m s : ℕ) → k ≤ n → p < k → get_or list p 0 ≡ m → m < n → s < nsub → get_or (coded_to code nsub list k codes) (m * nsub + s) 0 ≡ code m s
    unfolding coded_to
    coded-at zero p m s h q e b u = absurd (omega arith)
    coded-at (suc k) p m s h q e b u =
        let o = coded_to code nsub list k codes in
        let a = get_or list k 0 in
        let w = coded-long k (omega arith) in
        let i = within a n nsub (below k h) in
        let earlier : (m ≡ a → ⊥) → get_or o (m * nsub + s) 0 ≡ code m s =
        λ z. last_or p k q (λ f. absurd (z (rw f at (sym e)))) (λ v. coded-at k p m s (omega arith) v e b u)
        in
        elim (dec_lt m a) [
          | yes v ↦
              get_or-put_part-before o (tab (code a) nsub) (a * nsub) nsub (m * nsub + s) 0 (omega arith) (omega (arith, within m a nsub v)) ∙ earlier (λ z. omega arith)
          | no v ↦ elim (dec_lt a m) [
            | yes x ↦
                get_or-put_part-after o (tab (code a) nsub) (a * nsub) nsub (m * nsub + s) 0 (omega arith) (length-tab (code a) nsub) (omega (arith, within a m nsub x))
                ∙ earlier (λ z. omega arith)
            | no x ↦
                let f : m ≡ a = omega arith in
                rw f (get_or-put_part-in o (tab (code a) nsub) (a * nsub) nsub s 0 (omega arith) (length-tab (code a) nsub) u ∙ get_or-tab (code a) nsub s 0 u)
          ]
        ]

    -- where each row has a place, all have theirs
    pub coded-all : ((m : ℕ) → m < n → (p : ℕ) × (p < n) × (get_or list p 0 ≡ m)) → coded_to code nsub list n codes ≡ grid code n nsub
    coded-all place =
        grid-self (coded_to code nsub list n codes) n nsub 0 (coded-long n (omega arith))
        ∙ grid-ext _ code n nsub (λ m b s u. let r = place m b in coded-at n r.0 m s (omega arith) r.1 r.2 b u)

-- the rows of a list that begins at place a of the members: coded as that list, after those before it
pub coded-list : (code code' : ℕ → ℕ → ℕ) (nsub : ℕ) (members list codes : List ℕ) (a k : ℕ)
    → ((j : ℕ) → j < k → get_or members (a + j) 0 ≡ get_or list j 0) → ((j : ℕ) → j < k → (s : ℕ) → s < nsub → code' (get_or list j 0) s ≡ code (get_or list j 0) s)
    → coded_to code' nsub list k (coded_to code nsub members a codes) ≡ coded_to code nsub members (a + k) codes
unfolding coded_to
coded-list code code' nsub members list codes a zero e f = rw add-zero
coded-list code code' nsub members list codes a (suc k) e f =
    let r = coded-list code code' nsub members list codes a k (λ j h. e j (omega arith)) (λ j h. f j (omega arith)) in
    let t = tab-ext (code' (get_or list k 0)) (code (get_or list k 0)) nsub (f k (omega arith)) in
    rw (add-suc a k, e k (omega arith), r, t)

-- ---- the codes of a cell's rows

-- a row of cell c has its code by the slices of that cell
pub cell-code : (s : CelledShape) (rows coarse subs : List Float) (c m k : ℕ) → bad_plain s.plain ≡ false → k < s.plain.nsub → cell_at s coarse rows m ≡ c
    → cell_code s rows coarse subs c m k ≡ filled_code s coarse subs rows m k
unfolding code_by code_of value_of
cell-code s rows coarse subs c m k good below e =
    let z = s.plain in
    let d = z.d in
    let b = begin_of d z.nsub k in
    let w = width_of d z.nsub k in
    let inside : b + w ≤ d = rw (← begin-next d z.nsub k) (begin-within d z.nsub (plain-bounds z good).range (suc k) below) in
    let x = on_range d z.nsub k (value_in (Some (part coarse (c * d) d)) (part rows (m * d) d)) in
    let y = on_range d z.nsub k (less_center d coarse c (row_at rows d m)) in
    rw e (chosen-ext x y (part (cell_subs z subs c) (stretch_at z k) (stretch_long z k)) w (centers_of z.bits)
    (λ j h. rw (get_or-part rows (m * d) d (b + j) nan (omega arith), get_or-part coarse (c * d) d (b + j) nan (omega arith))))
