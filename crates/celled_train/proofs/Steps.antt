-- Laws on all steps in turn: a refusal of the coarse k-means or of a cell, the codes against what was made, and the two ends.
use Prim.Native.Nat.{ℕ}
use mathlib.Core.Path.{◌≡◌, sym, ◌∙◌, ap, subst}
use mathlib.Core.List.{List}
use native.Mathlib.Omega.{arith}
use lib.ListN.{length}
use lib.Ieee.{Float}
use Rattle.std.specs.Prelude.{Ok, Err}
use Rattle.answers.specs.declared.Stage.TheVariants.{Coarse}
use Rattle.answers.specs.declared.Untrained.{Untrained}
use Rattle.answers.specs.Answers.{Clustered, Trained, staged}
use Rattle.kmeans.specs.Kmeans.{train}
use Rattle.pq_train.proofs.Laws.{Refusal}
use Rattle.celled_lists.specs.Index.{Index, index_of}
use Rattle.celled_fill.specs.Fill.{filled_codes}
use Rattle.celled_cells.specs.Training.{Given, coarse_task, reached_cell}
use Rattle.celled_cells.specs.CellsInner.{Held, Cells, CellsHeld, CellsTrained}
use Rattle.celled_train.specs.TrainInner.{Stepped}
use Rattle.celled_cells.proofs.Cells.{celled, members-many, cells-refused}
use Rattle.celled_train.proofs.Tied.{codes-tied}

-- ---- refusals

-- a refusal makes no promise on the index
module _ (i : Given) (u : Untrained) (x : Index) where
  -- the coarse k-means
  pub coarse-refused : (c : Clustered) → c ≡ (train (coarse_task i) 0).answer → Err u ≡ staged Coarse c → Stepped i (Err u) x
  unfolding reached_cell
  coarse-refused c e f =
      let g : reached_cell i 0 ≡ Err u = ap (staged Coarse) (sym e) ∙ sym f in
      record { said = sym g ∙ cells-refused i 0 i.shape.cells (omega arith) (subst Refusal (sym g) tt); made = λ q h. cc }

-- ---- success

pub cells-held : {i : Given} {coarse : List Float} {starts members : List ℕ} → Held i → Cells i coarse starts members → CellsHeld i coarse starts members
cells-held h c = record { held = h; cells = c }

module _ {i : Given} {coarse : List Float} {starts members : List ℕ} (h : CellsHeld i coarse starts members) where
  pub steps-done : (t : Trained) (used : ℕ) (subs : List Float) (codes : List ℕ) → t ≡ Ok used → CellsTrained i t subs
      → codes ≡ filled_codes i.shape coarse subs i.rows (length members)
      → Stepped i (Ok used) (index_of i.shape i.n coarse starts members subs codes)
  steps-done t used subs codes e v f = record {
    said = sym e ∙ v.said;
    made = λ u g. rw (f, members-many h, h.cells.started, h.cells.listed, v.made used e, h.cells.centered, codes-tied i (celled h));
  }
