-- The coarse centres' frame is held by the rows; what is assigned by it is the cell of each row; and the lists are those of these cells.
use Prim.Native.Nat.{ℕ, ◌+◌, ◌*◌, ◌<◌}
use mathlib.Core.Path.{◌≡◌, ◌∙◌, ap}
use mathlib.Core.List.{List, ◌++◌}
use native.Mathlib.Nat.{add-zero}
use native.Mathlib.Omega.{arith}
use lib.ListN.{length, get_or, get_or-append}
use lib.Ieee.{Float, nan}
use Rattle.std.specs.Prelude.{None}
use Rattle.lists.specs.Lists.{tab}
use Rattle.lists.proofs.Tables.{tab-ext, length-tab, get_or-tab}
use Rattle.lists.proofs.Joins.{join-ext}
use Rattle.metrics.specs.Distance.{value_of}
use Rattle.pq_params.specs.declared.CelledShape.{CelledShape}
use Rattle.kmeans_assign.specs.Task.{value_at, row_task}
use Rattle.kmeans_assign.specs.Assign.{assigned_of}
use Rattle.kmeans_assign.proofs.Choosing.{nearest-lt, chosen-ext}
use Rattle.pq_train.specs.Training.{row_at}
use Rattle.celled_lists.specs.Cells.{cell_in}
use Rattle.celled_lists.specs.Inner.{Filled as FilledBy}
use Rattle.celled_lists.proofs.CellLists.{start-ext, list_ext}
use Rattle.celled_fill.specs.Fill.{cell_at}
use Rattle.celled_fill.specs.FillInner.{coarse_frame, Rows, Lists}

-- the frame's values are the rows'
pub coarse-value : (s : CelledShape) (n : ℕ) (rows : List Float) (k j : ℕ)
    → value_at (coarse_frame s n) rows None None k j ≡ row_at rows s.plain.d k j
unfolding value_of
coarse-value s n rows k j = ap (λ (x : ℕ). get_or rows (x + j) nan) (add-zero (k * s.plain.d))

-- so each row is assigned to its cell
pub coarse-assigned : (s : CelledShape) (n : ℕ) (rows coarse : List Float)
    → assigned_of (row_task (coarse_frame s n) rows None None) coarse ≡ tab (cell_at s coarse rows) n
coarse-assigned s n rows coarse =
    tab-ext _ (cell_at s coarse rows) n (λ k h. chosen-ext _ (row_at rows s.plain.d k) coarse s.plain.d s.cells (λ j l. coarse-value s n rows k j))

module _ {s : CelledShape} {n : ℕ} {rows coarse : List Float} (h : Rows s n rows coarse) where
  -- each row has a cell
  pub celled : (m : ℕ) → m < n → cell_at s coarse rows m < s.cells
  celled m k = nearest-lt _ s.cells h.some-cell

  -- ---- work, whose first n words are the cells of the rows

  module _ (to rest : List ℕ) (e : to ≡ tab (cell_at s coarse rows) n) where
    front-cell : (m : ℕ) → m < n → cell_in (to ++ rest) m ≡ cell_at s coarse rows m
    front-cell m k =
        let l : m < length to = omega (arith, ap length e ∙ length-tab (cell_at s coarse rows) n) in
        get_or-append to rest 0 m l ∙ ap (λ (t : List ℕ). get_or t m 0) e ∙ get_or-tab (cell_at s coarse rows) n m 0 k

    pub front-celled : (m : ℕ) → m < n → cell_in (to ++ rest) m < s.cells
    front-celled m k = rw (front-cell m k) (celled m k)

    -- the lists that are made from it
    pub front_lists : {starts members work : List ℕ} → FilledBy s.cells n (to ++ rest) starts members work → Lists s n rows coarse starts members
    front_lists f = record {
      started = f.started ∙ tab-ext _ _ _ (λ c k. start-ext _ (cell_at s coarse rows) n front-cell c);
      listed = f.listed ∙ join-ext _ _ s.cells (λ c k. list_ext _ (cell_at s coarse rows) n front-cell c);
    }
