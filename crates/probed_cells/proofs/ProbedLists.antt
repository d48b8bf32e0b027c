-- Laws on the lists of the probed cells: which rows a cell has, and what the tests of lists and codes leave of them.
use Prim.Native.Nat.{ℕ, suc, ◌-◌, ◌≤◌, ◌<◌}
use mathlib.Core.Path.{◌≡◌, sym, ◌∙◌}
use mathlib.Core.Bool.{Bool, true, false}
use mathlib.Core.List.{List}
use native.Mathlib.Numerals.{add-one}
use native.Mathlib.Omega.{arith}
use borrow.Author.Tests.{ltb-true}
use lib.ListN.{length, get_or}
use lib.Seq.{take_all}
use lib.Ieee.{Float}
use Rattle.std.specs.Prelude.{Option, Some}
use Rattle.std.specs.Borrow.{Bor}
use Rattle.lists.proofs.Parts.{length-part}
use Rattle.lists.proofs.Tables.{tab-get_or}
use Rattle.std.specs.Bool.{MatchBool}
use Rattle.std.specs.List.{AllWithin, HoldsAt}
use Rattle.lists.specs.Tests.{every}
use Rattle.lists.proofs.Tests.{and_l, every_of, every_true, every-false}
use Rattle.celled_lists.specs.Lists.{start_of, is_below, list_sound}
use Rattle.celled_lists.proofs.Starts.{cell-within}
use Rattle.cell_codes.specs.Codes.{rows_of, cell_of, codes_sound}
use Rattle.cell_codes.specs.CodesInner.{Rows}
use Rattle.probed_cells.specs.declared.Asking.{Asking}
use Rattle.probed_cells.specs.Search.{Asked, asking_in, members_at, cell_sound}
use Rattle.probed_cells.specs.ProbedInner.{view_of, Listed}

-- what `all` answers: a test of every element
pub all_tested : (t : ℕ → Bool) (l : List ℕ) (r : Bool)
    → MatchBool r (AllWithin (λ x. t x ≡ true) l 0 (length l)) ((k : ℕ) × (k < length l) × HoldsAt (λ x. t x ≡ false) l k)
    → r ≡ every (λ (i : ℕ). t (get_or l i 0)) (length l)
all_tested t l true h = sym (every_of _ (length l) (λ i k. h i 0 (omega arith) k))
all_tested t l false h = sym (every-false _ (length l) h.0 h.1 (h.2 0))

-- the rows of a cell whose list is all of its rows
pub rows_are : (list : List ℕ) → rows_of (Some list) (length list) ≡ list
rows_are list = tab-get_or list (length list) 0 (omega arith) ∙ take_all (length list) list (omega arith)

-- members below n
pub list-below : (n : ℕ) (list : List ℕ) → list_sound n list ≡ true → (i : ℕ) → i < length list → get_or list i 0 < n
unfolding list_sound
list-below n list e i h = ltb-true (get_or list i 0) n (every_true (is_below list n) (length list) (and_l _ _ e) i h)

module _ (a : Asked) (l : Listed a) (c : ℕ) (h : c < a.index.shape.cells) where
  -- a cell has no more rows than there are
  pub list-few : length (members_at a c) ≤ a.index.n
  list-few =
      let k = rw add-one at (cell-within a.index.starts a.index.shape.cells a.index.n l.starts-sound c h) in
      let from = start_of a.index.starts c in
      omega (arith, l.members-long, length-part a.index.members from (start_of a.index.starts (suc c) - from) (omega (arith, l.members-long, k)))

module _ (b : Asking) (l : Listed (asking_in b)) (c : ℕ) (h : c < b.index.shape.cells) (list : Bor (List ℕ)) (e : list.now ≡ members_at (asking_in b) c)
    (center : Option (Bor (List Float))) (t : list_sound b.index.n list.now ≡ true) where
  -- a sound list's rows have mask bytes and codes
  pub list-rows : Rows (view_of b c list center)
  list-rows = record {
    numbered = record {
      mask-few = rw l.mask-long l.few;
      few = rw e (omega (arith, list-few (asking_in b) l c h, l.few));
      listed-long = omega arith;
      inside = λ i k. rw l.mask-long (list-below b.index.n list.now t i k);
    };
    codes-long = rw l.mask-long l.codes-long;
  }

  -- then the test of the cell is that of its codes
  pub codes-decide : codes_sound (cell_of (view_of b c list center)) ≡ cell_sound (asking_in b) c
  codes-decide = rw (rows_are list.now, ← e, t)
