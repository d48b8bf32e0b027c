-- Lists that are filled from the cell of each row are in order.
use Prim.Native.Nat.{ℕ, zero, suc, ◌+◌, ◌-◌, ◌<◌}
use mathlib.Core.Path.{◌≡◌, sym, ◌∙◌, ap}
use mathlib.Core.List.{List, [], ◌∷◌}
use native.Mathlib.Numerals.{add-one}
use native.Mathlib.Omega.{arith}
use lib.ListN.{length}
use Rattle.lists.specs.Lists.{part}
use Rattle.lists.specs.Tests.{keep}
use Rattle.lists.proofs.Counting.{met}
use Rattle.lists.proofs.Kept.{up_to, kept-rises}
use Rattle.lists.proofs.Rising.{Rises, rises-at}
use Rattle.pq_params.specs.Bounds.{centers_of}
use Rattle.pq_params.specs.Codes.{code_at}
use Rattle.celled_lists.specs.Cells.{cell_list, filled_starts, filled_members}
use Rattle.celled_lists.specs.Index.{Index}
use Rattle.celled_lists.specs.Inner.{place_of}
use Rattle.celled_lists.specs.Lists.{start_of}
use Rattle.celled_lists.proofs.CellLists.{first-start, last-start, list-row, place-below, place-of-row}
use Rattle.celled_lists.proofs.Filled.{start_is, start-next, members-long, list-part, member-at}
use Rattle.policy.specs.Check.{HoldsAt, EachBelowNext, list_at, InOrder}

rises_next : (l : List ℕ) (b : ℕ) → Rises b l → EachBelowNext l
rises_next [] b r i h = absurd (omega arith)
rises_next (x ∷ l) b r zero h = rises-at l (suc x) 0 r.1 (omega arith)
rises_next (x ∷ l) b r (suc i) h = rises_next l (suc x) r.1 i (omega arith)

cell-rises : (to : ℕ → ℕ) (n c : ℕ) → EachBelowNext (cell_list to n c)
unfolding cell_list
cell-rises to n c = rises_next (keep (met to c) (up_to n)) 0 (kept-rises (met to c) n)

-- to m is the cell of row m
module _ (x : Index) (to : ℕ → ℕ) (celled : (m : ℕ) → m < x.n → to m < x.shape.cells)
    (started : x.starts ≡ filled_starts to x.n x.shape.cells) (listed : x.members ≡ filled_members to x.n x.shape.cells) where
  next-at : (c : ℕ) → c < x.shape.cells → start_of x.starts (suc c) ≡ start_of x.starts c + length (cell_list to x.n c)
  next-at c h = rw add-one at (start-next celled started listed c h)

  cell-is : (c : ℕ) → c < x.shape.cells → list_at x c ≡ cell_list to x.n c
  cell-is c h =
      let w = length (cell_list to x.n c) in
      let e : start_of x.starts (suc c) - start_of x.starts c ≡ w = omega (arith, next-at c h) in
      ap (part x.members (start_of x.starts c)) e ∙ list-part celled started listed c h

  place_at : (m p : ℕ) → HoldsAt x.members m p → place_of to x.n m ≡ p
  place_at m p h =
      let e = place-of-row to x.shape.cells x.n celled p (omega (arith, h.within, members-long celled started listed)) in
      rw (← listed, h.held) at e

  pub filled-order : ((m : ℕ) → m < x.n → (s : ℕ) → s < x.shape.plain.nsub → code_at x.codes x.shape.plain.nsub m s < centers_of x.shape.plain.bits)
      → InOrder x
  filled-order codes = record {
    first-start = start_is celled started listed 0 (omega arith) ∙ first-start to x.n;
    last-start = start_is celled started listed x.shape.cells (omega arith) ∙ last-start to x.shape.cells x.n celled;
    never-fall = λ c h. omega (arith, next-at c h);
    stands = λ m h. (
      place_of to x.n m,
      record {
        within = omega (arith, place-below to x.shape.cells x.n celled m h, members-long celled started listed);
        held = member-at celled started listed m h;
      },
    );
    once = λ m h p q k l. sym (place_at m p k) ∙ place_at m q l;
    rises = λ c h. rw (cell-is c h) (cell-rises to x.n c);
    below = λ c h. rw (cell-is c h) (λ i k. (list-row to x.n c i k).0);
    codes-below = codes;
  }
