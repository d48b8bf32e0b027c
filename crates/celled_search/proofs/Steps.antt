-- The steps of a celled search: what each leaves to the next, and that each of their refusals is the definition's.
use Prim.Native.Nat.{ℕ}
use mathlib.Core.Path.{◌≡◌, refl, sym, ◌∙◌, ap}
use mathlib.Core.Bool.{Bool, true, false}
use mathlib.Core.List.{List, []}
use native.Mathlib.Omega.{arith}
use lib.ListN.{length}
use lib.Ieee.{Float}
use Rattle.std.specs.Prelude.{Ok, Err}
use Rattle.answers.specs.declared.Refusal.{Refusal}
use Rattle.answers.specs.declared.Refusal.TheVariants.{Damaged, DistanceNotFinite}
use Rattle.lists.specs.Lists.{fill}
use Rattle.lists.specs.Tests.{every}
use Rattle.lists.proofs.Tables.{length-tab}
use Rattle.metrics.specs.Distance.{zero32}
use Rattle.pq_params.proofs.Bounds.{celled-bounds}
use Rattle.celled_probe.specs.Probe.{probe_answer, nearest_cells}
use Rattle.celled_probe.specs.ProbeInner.{Ranking, Probed}
use Rattle.celled_probe.proofs.Nearest.{nearest-below}
use Rattle.cell_walk.specs.Results.{Lent, lent, SearchOut, search_out, asked_of, said_refused, blank}
use Rattle.cell_walk.specs.WalkInner.{Blank}
use Rattle.cell_walk.proofs.Cells.{length-rows}
use Rattle.probed_cells.specs.Search.{Asked, starts_good, coarse_distance, coarse_finite, probed, probed_sound}
use Rattle.probed_cells.specs.ProbedInner.{Listed, CellsIn, sound_at, Probing, Cleared, probed_outcome}
use Rattle.probed_cells.proofs.ProbedCells.{listed_of}
use Rattle.celled_search.specs.Outcome.{search_worked}
use Rattle.celled_search.specs.SearchInner.{Stepping}

-- ---- what is lent

-- blank results and a table of zeros are cleared
pub cleared : (rows : List ℕ) (sums table : List Float) (k n : ℕ) → Blank k rows sums → table ≡ fill zero32 n → Cleared (lent rows sums table)
cleared rows sums table k n b z =
    let l : length rows ≡ k = ap length b.rows-blank ∙ length-rows k [] (omega arith) in
    let m : length table ≡ n = ap length z ∙ length-tab _ n in
    record { rows-blank = rw l b.rows-blank; sums-blank = rw l b.sums-blank; table-zero = rw m z }

-- what is cleared is what a refusal leaves
pub cleared-out : (l : Lent) (why : Refusal) → Cleared l → search_out (Err why) l.rows l.sums l.table ≡ blank l why
cleared-out l why c = λ t. record {
  answer = Err why;
  said = said_refused why;
  rows = c.rows-blank t;
  sums = c.sums-blank t;
  table = c.table-zero t;
}

module _ (a : Asked) (l : Lent) where
  -- the work depends on the lengths of what is lent alone
  pub worked-as : (m : Lent) (o : SearchOut) → o ≡ search_worked a m → asked_of m ≡ asked_of l → length m.table ≡ length l.table → o ≡ search_worked a l
  unfolding search_worked
  worked-as m o e k t = e ∙ rw (k, t)

  -- ---- how each step ends

  -- starts that are not sound, once the results are blank and the table is zero
  pub worked-starts : (rows : List ℕ) (sums table : List Float) → Blank (asked_of l) rows sums → table ≡ fill zero32 (length l.table) → starts_good a ≡ false
      → search_out (Err Damaged) rows sums table ≡ search_worked a l
  unfolding search_worked
  worked-starts rows sums table b z s = rw (s, b.rows-blank, b.sums-blank, z)

-- ---- step 2

-- what the answer of the probing says
finite-of : (b : Bool) → Ok tt ≡ probe_answer b → b ≡ true
finite-of true e = refl
finite-of false e = cc

not-finite-of : (b : Bool) (why : Refusal) → Err why ≡ probe_answer b → (b ≡ false) × (why ≡ DistanceNotFinite)
not-finite-of true why e = let z : ⊥ = cc in absurd z
not-finite-of false why e = (refl, cc)

module _ (a : Asked) (places : List ℕ) (table : List Float) (w : Stepping a places table) where
  -- the cells may be ranked
  pub ranking : Ranking a.index.shape.plain.d a.index.shape.cells a.query a.index.coarse (length places)
  ranking =
      let b = celled-bounds a.index.shape w.ready.good in
      record {
        cells-most = b.cells-most;
        query-long = w.ready.query-long;
        coarse-long = w.ready.coarse-long;
        places-most = rw w.places-long b.probes-fit;
      }

  -- a refusal of the probing is the definition's
  pub worked-refused : (l : Lent) (places' : List ℕ) (why : Refusal) → Cleared l → Probed (coarse_distance a) a.index.shape.cells places places' (Err why)
      → search_out (Err why) l.rows l.sums l.table ≡ search_worked a l
  unfolding search_worked
  worked-refused l places' why c P =
      let n = not-finite-of (coarse_finite a) why P.answer in
      cleared-out l why c ∙ rw (n.1, w.starts-good, n.0)

  -- ---- step 3

  module _ (probed' : List ℕ) (P : Probed (coarse_distance a) a.index.shape.cells places probed' (Ok tt)) where
    probed-is : probed' ≡ probed a
    probed-is = P.cells_are ∙ rw (finite-of (coarse_finite a) P.answer) (ap (nearest_cells (coarse_distance a) a.index.shape.cells) w.places-long)

    -- the probed cells may be tested
    pub probed-listed : Listed a × CellsIn a.index.shape.cells probed'
    probed-listed = (
      listed_of a w.ready w.starts-good,
      λ p h. rw probed-is (nearest-below (coarse_distance a) a.index.shape.cells a.index.shape.probes p (rw probed-is at h)),
    )

    sound-is : every (sound_at a probed') (length probed') ≡ probed_sound a
    unfolding probed_sound
    sound-is = rw probed-is

    -- damage in one of them
    pub worked-damaged : (l : Lent) → Cleared l → every (sound_at a probed') (length probed') ≡ false → search_out (Err Damaged) l.rows l.sums l.table ≡ search_worked a l
    unfolding search_worked
    worked-damaged l c d = cleared-out l Damaged c ∙ rw (w.starts-good, finite-of (coarse_finite a) P.answer, sym sound-is ∙ d)

    -- steps 4 and 5, where there is none
    module _ (t : every (sound_at a probed') (length probed') ≡ true) where
      pub probing : Probing a probed' table
      probing = record { ready = w.ready; starts-good = w.starts-good; list-is = probed-is; sound = sym sound-is ∙ t; table-long = w.table-long }

      pub worked-probed : (l : Lent) (o : SearchOut) → o ≡ probed_outcome a l → o ≡ search_worked a l
      unfolding search_worked
      worked-probed l o e = e ∙ rw (w.starts-good, finite-of (coarse_finite a) P.answer, sym sound-is ∙ t)
