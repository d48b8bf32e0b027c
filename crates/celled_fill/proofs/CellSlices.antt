-- The slices of one cell: its list among the members, its centre among the coarse centres, and its sub-centres.
use Prim.Native.Nat.{ℕ, suc, ◌+◌, ◌-◌, ◌*◌, ◌≤◌, ◌<◌}
use mathlib.Core.Path.{◌≡◌, sym, ◌∙◌, ap}
use mathlib.Core.List.{List}
use native.Mathlib.Numerals.{add-one}
use native.Mathlib.Omega.{arith}
use lib.ListN.{length, get_or}
use lib.Ieee.{Float}
use Rattle.std.specs.Prelude.{IfSome, option_copied}
use Rattle.lists.specs.Lists.{part, Part}
use Rattle.lists.proofs.Parts.{get_or-part}
use Rattle.lists.proofs.Joins.{within}
use Rattle.pq_params.specs.declared.CelledShape.{CelledShape}
use Rattle.pq_params.specs.Lengths.{subs_long}
use Rattle.pq_train.specs.declared.RowList.{RowList}
use Rattle.celled_lists.specs.Lists.{ListHeld, start_of}
use Rattle.celled_lists.specs.Cells.{cell_list, cell_start}
use Rattle.celled_lists.specs.Inner.{place_of}
use Rattle.celled_lists.proofs.CellLists.{begins, first-start, last-start, list-row, place-below}
use Rattle.celled_lists.proofs.Filled.{start_is, list-lies, list-taken, list-part, member_below, member-at}
use Rattle.celled_fill.specs.Fill.{cell_at, filled_code, filled_codes}
use Rattle.celled_fill.specs.FillInner.{coded_to, row_code, cell_code, coded_cell, Listed, Coding}
use Rattle.celled_fill.proofs.Coarse.{celled}
use Rattle.celled_fill.proofs.Codes.{coded_none, coded-list, coded-all, cell-code}

module _ {s : CelledShape} {rows coarse : List Float} {starts members : List ℕ} {subs : List Float} {codes : List ℕ}
    (h : Coding s rows coarse starts members subs codes) where
  abbrev to : ℕ → ℕ
  to = cell_at s coarse rows

  abbrev n : ℕ
  n = length members

  abbrev start : ℕ → ℕ
  start = cell_start to n

  abbrev list : ℕ → List ℕ
  list = cell_list to n

  module _ (c : ℕ) (below : c < s.cells) where
    -- it has a list, which lies within the members
    pub list_inside : ListHeld starts members c
    list_inside = list-lies (celled h.held) h.filled.started h.filled.listed c below

    pub list-is : part members (get_or starts c 0) (length (list c)) ≡ list c
    list-is = list-part (celled h.held) h.filled.started h.filled.listed c below

    pub list-given : (l : List ℕ) → Part members (start_of starts c) (start_of starts (suc c) - start_of starts c) l → l ≡ list c
    list-given l p = list-taken (celled h.held) h.filled.started h.filled.listed c l below p

    -- its sub-centres lie within the sub-centres
    pub subs-held : c * subs_long s.plain + subs_long s.plain ≤ length subs
    subs-held = omega (arith, within c s.cells (subs_long s.plain) below, h.subs-long)

    -- its rows can be coded
    pub listed : (l : RowList) (m : List ℕ) (own : List Float) → l.shape ≡ s.plain → l.rows.now ≡ rows → IfSome (option_copied l.center) (λ x. l.shape.d ≤ length x)
        → m ≡ list c → length own ≡ subs_long s.plain → Listed l m own codes
    listed l m own z r w e q = record {
      good = rw z h.held.good;
      row-held = rw (z, r, e) (λ k u. omega (arith, within (get_or (list c) k 0) n s.plain.d (list-row to n c k u).0, h.held.rows_long));
      code-held = rw (z, e) (λ k u. omega (arith, within (get_or (list c) k 0) n s.plain.nsub (list-row to n c k u).0, h.codes-long));
      center-long = w;
      subs-long = rw z q;
    }

    -- and what is then put in is what the walk of its list puts in
    pub cell-coded : (l : List ℕ) (center own : List Float) (w : ℕ) (out : List ℕ) → l ≡ list c → center ≡ part coarse (c * s.plain.d) s.plain.d
        → own ≡ part subs (c * w) w → w ≡ subs_long s.plain → out ≡ coded_to (row_code s.plain rows center own) s.plain.nsub l (length l) codes
        → out ≡ coded_cell s n c rows coarse subs codes
    cell-coded l center own w out e f g u r = r ∙ rw (e, f, g, u)

  -- ---- the walk of the cells

  abbrev coded_for : ℕ → List ℕ
  coded_for c = coded_to (filled_code s coarse subs rows) s.plain.nsub members (start c) codes

  -- no cell is passed
  pub cells-none : codes ≡ coded_for 0
  cells-none = coded_none _ _ _ _ ∙ ap (λ (p : ℕ). coded_to (filled_code s coarse subs rows) s.plain.nsub members p codes) (sym (first-start to n))

  -- one more
  pub cells-more : (c : ℕ) → c < s.cells → coded_cell s n c rows coarse subs (coded_for c) ≡ coded_for (c + 1)
  cells-more c below =
      let z = s.plain in
      coded-list (filled_code s coarse subs rows) (cell_code s rows coarse subs c) z.nsub members (list c) codes (start c) (length (list c))
      (λ j k. member j k)
      (λ j k q u. cell-code s rows coarse subs c (get_or (list c) j 0) q h.held.good u (list-row to n c j k).1)
      ∙ ap (λ (p : ℕ). coded_to (filled_code s coarse subs rows) z.nsub members p codes) (sym (rw add-one ((begins to n).next c)))
    where
      member : (j : ℕ) → j < length (list c) → get_or members (start c + j) 0 ≡ get_or (list c) j 0
      member j k =
          let e = start_is (celled h.held) h.filled.started h.filled.listed c (omega arith) in
          sym (get_or-part members (start c) (length (list c)) j 0 k) ∙ ap (λ (l : List ℕ). get_or l j 0) (rw e at (list-is c below))

  -- all
  pub cells-all : coded_for s.cells ≡ filled_codes s coarse subs rows n
  cells-all =
      let all = celled h.held in
      ap (λ (p : ℕ). coded_to (filled_code s coarse subs rows) s.plain.nsub members p codes) (last-start to s.cells n all)
      ∙ coded-all (filled_code s coarse subs rows) s.plain.nsub members codes n h.codes-long
      (member_below all h.filled.started h.filled.listed)
      (λ m u. (place_of to n m, place-below to s.cells n all m u, member-at all h.filled.started h.filled.listed m u))
