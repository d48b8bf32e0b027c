-- A probed cell as the search in one cell meets it: it is the definition's cell, and all that is read there is there.
use Prim.Native.Nat.{ℕ, ◌*◌, ◌≤◌, ◌<◌}
use mathlib.Core.Path.{◌≡◌, ◌∙◌, ap, fun_ext}
use mathlib.Core.Bool.{true}
use mathlib.Core.List.{List}
use native.Mathlib.Omega.{arith}
use lib.ListN.{length, get_or}
use lib.Ieee.{Float}
use Rattle.std.specs.Prelude.{Some}
use Rattle.std.specs.Borrow.{Bor}
use Rattle.lists.specs.Lists.{Part}
use Rattle.lists.proofs.Joins.{within}
use Rattle.lists.proofs.Tests.{and_l, and_r, every_true}
use Rattle.pq_params.specs.Lengths.{subs_long}
use Rattle.pq_params.proofs.Bounds.{celled-bounds}
use Rattle.celled_lists.specs.Lists.{list_sound}
use Rattle.celled_probe.proofs.Nearest.{nearest-long, nearest-below}
use Rattle.cell_table.specs.Tables.{Cell}
use Rattle.cell_table.proofs.Entries.{query-less}
use Rattle.cell_codes.specs.Codes.{cell_of, codes_sound}
use Rattle.cell_walk.specs.CellInner.{Searching, cell_outcome}
use Rattle.cell_walk.specs.Results.{Lent, SearchOut}
use Rattle.probed_cells.specs.declared.Asking.{Asking}
use Rattle.probed_cells.specs.Search.{Asked, asking_in, starts_good, coarse_distance, probed, probed_at, members_at, cell_at, cell_sound, probed_sound}
use Rattle.probed_cells.specs.ProbedInner.{view_of, Listed, Ready, Walking, Probing}
use Rattle.probed_cells.proofs.ProbedLists.{rows_are, list-few, list-rows}

-- the lists may be read
pub listed_of : (a : Asked) → Ready a → starts_good a ≡ true → Listed a
listed_of a r s = record {
  plain = (celled-bounds a.index.shape r.good).plain;
  few = r.few;
  mask-long = r.mask-long;
  starts-long = r.starts-long;
  members-long = r.members-long;
  codes-long = r.codes-long;
  starts-sound = s;
}

module _ (b : Asking) (c : ℕ) (list : Bor (List ℕ)) (e : list.now ≡ members_at (asking_in b) c) (center : Bor (List Float))
    (p : Part b.index.coarse.now (c * b.index.shape.plain.d) b.index.shape.plain.d center.now) (table : List Float) (w : Walking (asking_in b) c table) where
  -- the cell that the code makes is the definition's
  cell-is : cell_of (view_of b c list (Some center)) ≡ cell_at (asking_in b) c
  cell-is =
      let less = fun_ext (λ j. query-less b.query.now b.index.coarse.now center.now c b.index.shape.plain.d j w.ready.query-long p) in
      rw (less, rows_are list.now, e)

  pub cell-outcome : (l : Lent) (found : ℕ) (o : SearchOut) → o ≡ cell_outcome (cell_of (view_of b c list (Some center))) l found → o ≡ cell_outcome (cell_at (asking_in b) c) l found
  cell-outcome l found o h = h ∙ ap (λ (x : Cell). cell_outcome x l found) cell-is

  pub cell-searched : Searching (view_of b c list (Some center)) table
  cell-searched =
      let r = w.ready in
      record {
        table_of = record {
          plain = (celled-bounds b.index.shape r.good).plain;
          query-long = r.query-long;
          center-long = p.long;
          subs-held = omega (arith, r.subs-long, within c b.index.shape.cells (subs_long b.index.shape.plain) w.cell_in);
          table-long = w.table-long;
        };
        rows-of = list-rows b (listed_of (asking_in b) r w.starts-good) c w.cell_in list e (Some center) (rw e (and_l _ _ w.sound));
        sound = ap codes_sound cell-is ∙ and_r (list_sound b.index.n (members_at (asking_in b) c)) (codes_sound (cell_at (asking_in b) c)) w.sound;
      }

-- ---- the p-th probed cell

module _ (a : Asked) (list : List ℕ) (table : List Float) (w : Probing a list table) where
  probed-below : (p : ℕ) → p < length list → probed_at a p < a.index.shape.cells
  probed-below p h = nearest-below (coarse_distance a) a.index.shape.cells a.index.shape.probes p (rw w.list-is at h)

  pub probed-is : (p : ℕ) → get_or list p 0 ≡ probed_at a p
  probed-is p = ap (λ (l : List ℕ). get_or l p 0) w.list-is

  -- there are few of them
  pub probed-few : length list ≤ 1024
  probed-few =
      let b = celled-bounds a.index.shape w.ready.good in
      rw w.list-is (omega (arith, b.cells-most, b.probes-fit, nearest-long (coarse_distance a) a.index.shape.cells a.index.shape.probes b.probes-fit))

  -- it may be searched
  pub walking-at : (p : ℕ) (table' : List Float) → p < length list → length table' ≡ length table → Walking a (get_or list p 0) table'
  unfolding probed_sound
  walking-at p table' h t = rw (probed-is p) (record {
    ready = w.ready;
    starts-good = w.starts-good;
    cell_in = probed-below p h;
    sound = every_true (λ (i : ℕ). cell_sound a (probed_at a i)) (length (probed a)) w.sound p (rw w.list-is at h);
    table-long = t ∙ w.table-long;
  })

  -- its list is no longer than all rows
  pub probed-rows : (p : ℕ) → p < length list → length (members_at a (probed_at a p)) ≤ 100_001
  probed-rows p h =
      omega (arith, w.ready.few, list-few a (listed_of a w.ready w.starts-good) (probed_at a p) (probed-below p h))
