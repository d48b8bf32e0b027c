-- Laws on the plain training: it trains one list of all rows, and what the two ends of that leave.
use Prim.Native.Nat.{ℕ, ◌*◌, ◌<◌}
use mathlib.Core.Path.{◌≡◌, sym, ◌∙◌, ap}
use mathlib.Core.List.{List}
use mathlib.Core.Bool.{false}
use native.Mathlib.Omega.{arith}
use lib.ListN.{length}
use lib.Ieee.{Float, nan}
use denote.Bor.{Bor}
use Rattle.std.specs.Prelude.{None, Ok, Err, option_copied}
use Rattle.lists.specs.Lists.{grid, fill}
use Rattle.lists.proofs.Parts.{get_or-part, length-part}
use Rattle.lists.proofs.Joins.{within, grid-ext}
use Rattle.metrics.specs.Distance.{value_of}
use Rattle.pq_params.specs.Bounds.{bad_plain}
use Rattle.pq_train.specs.declared.RowList.{RowList}
use Rattle.answers.specs.declared.Untrained.{Untrained}
use Rattle.answers.specs.Answers.{Trained}
use Rattle.pq_train.specs.Training.{row_at, answer_of, sub_centers}
use Rattle.pq_train.specs.Inner.{listed_of, row_in, Coding, ListOut, list_out, list_outcome}
use Rattle.pq_train.proofs.Laws.{code_is}
use Rattle.plain_train.specs.Outcome.{TrainIn, train_out, all_rows, plain_code, train_ended}
use Rattle.plain_train.specs.TrainInner.{plain_list, Codable, code_in}

-- each row can be coded
pub row-coding : {l : RowList} {subs : List Float} {codes : List ℕ} → Codable l subs codes → (m : ℕ) → m < l.n → Coding l.shape (row_in l.shape l.rows.now m) (option_copied l.center) subs
row-coding {l} c m h = record {
  good = c.good;
  row-long = length-part l.rows.now (m * l.shape.d) l.shape.d (omega (arith, within m l.n l.shape.d h, c.rows_long));
  center-long = rw c.plain tt;
  subs-long = c.subs-long;
}

module _ (i : TrainIn) (rows : Bor (List Float)) (same : rows.now ≡ i.rows) where
  abbrev list : RowList
  list = plain_list i.shape i.epochs i.n rows

  -- which is document 01's list of all rows
  listed-all : listed_of list i.draws 0 ≡ all_rows i
  unfolding value_of
  listed-all = rw same

  -- what its training leaves
  left : (t : Trained) (subs : List Float) (assigned : List ℕ) → list_out t subs assigned ≡ list_outcome (listed_of list i.draws 0) (length i.subs)
      → list_out t subs assigned ≡ list_outcome (all_rows i) (length i.subs)
  left t subs assigned e = rw listed-all at e

  -- a training that is refused
  pub ended-refused : (u : Untrained) (subs : List Float) (codes work assigned : List ℕ) → list_out (Err u) subs assigned ≡ list_outcome (listed_of list i.draws 0) (length i.subs)
      → codes ≡ fill 0 (length i.codes) → work ≡ fill 0 (length i.work) → train_out (Err u) subs codes work ≡ train_ended i
  unfolding list_outcome
  ended-refused u subs codes work assigned e f g =
      let o = left (Err u) subs assigned e in
      let a : answer_of (all_rows i) ≡ Err u = sym (ap (λ (o : ListOut). o.answer) o) in
      let b = rw a at (ap (λ (o : ListOut). o.subs) o) in
      rw (a, f, g, b)

  codes-are : bad_plain i.shape ≡ false → grid (code_in i.shape rows.now (sub_centers (all_rows i))) i.n i.shape.nsub ≡ grid (plain_code i) i.n i.shape.nsub
  unfolding value_of
  codes-are good =
      rw same
      (grid-ext _ _ i.n i.shape.nsub (λ m h s below.
      code_is (all_rows i) (row_in i.shape i.rows m) None (row_at i.rows i.shape.d m) s good below (λ j k. get_or-part i.rows (m * i.shape.d) i.shape.d j nan k)))

  -- and one that succeeds
  pub ended-done : (used : ℕ) (subs : List Float) (codes work assigned : List ℕ) → list_out (Ok used) subs assigned ≡ list_outcome (listed_of list i.draws 0) (length i.subs)
      → bad_plain i.shape ≡ false → codes ≡ grid (code_in i.shape rows.now subs) i.n i.shape.nsub → work ≡ fill 0 (length i.work)
      → train_out (Ok used) subs codes work ≡ train_ended i
  unfolding list_outcome
  ended-done used subs codes work assigned e good f g =
      let o = left (Ok used) subs assigned e in
      let a : answer_of (all_rows i) ≡ Ok used = sym (ap (λ (o : ListOut). o.answer) o) in
      let b : subs ≡ sub_centers (all_rows i) = rw a at (ap (λ (o : ListOut). o.subs) o) in
      let c : codes ≡ grid (plain_code i) i.n i.shape.nsub = f ∙ rw b (codes-are good) in
      rw (a, c, g, b)
