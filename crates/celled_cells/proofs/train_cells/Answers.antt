-- `train_cells`: the cells passed are reached, and their sub-centres stand in front.
use Prim.Native.Nat.{ℕ, ◌+◌, ◌*◌}
use mathlib.Core.Path.{◌≡◌, refl, sym, ◌∙◌, ap, subst}
use native.Mathlib.Omega.{arith}
use Rattle.std.proofs.lemmas.Result.{err_from_is_err_and}
use Rattle.lists.proofs.Joins.{join-none, join_step, join-done}
use Rattle.pq_train.proofs.Laws.{Refusal}
use Rattle.celled_cells.specs.Training.{Given, reached_cell, cell_centers}
use Rattle.celled_cells.specs.CellsInner.{given_by}
use Rattle.celled_cells.proofs.Cells.{centers-long, centers-evenly, cells-refused}
use Rattle.celled_cells.proofs.Draws.{cells-drawn}
use Rattle.celled_cells.proofs.train_cells.Goals as goal

pub loop-c-init : goal.loop-c-init
unfolding reached_cell
loop-c-init c =
    let given : Given = given_by c.args.l.now in
    record { reached = c.requires.cells_lent.began; made = join-none (cell_centers given) (λ (i : ℕ). i * _) (centers-evenly given _ c.subs_long-long.ensures) c.args.subs.now }

pub train_cell_at-requires-clause-cell_at : goal.train_cell_at-requires-clause-cell_at
train_cell_at-requires-clause-cell_at c =
    let a = c.args in
    let i = c.loop-c in record {
      below = c.loop-c-test.true;
      reached = i.invariant.reached;
      drawn = cells-drawn (given_by a.l.now) i.c i.used i.invariant.reached;
      long-is = c.subs_long-long.ensures;
      subs-long = i.auto.subs ∙ c.requires.cells_lent.subs-long ∙ ap (λ (x : ℕ). a.l.now.shape.cells * x) (sym c.subs_long-long.ensures);
      assigned-long = i.auto.assigned ∙ c.requires.cells_lent.assigned-long;
    }

pub returns-in_err-used : goal.returns-in_err-used
returns-in_err-used c =
    let given : Given = given_by c.args.l.now in
    let i = c.loop-c in
    let v = c.train_cell_at in
    let e = sym v.ensures.said ∙ c.in_err-used.was in
    let p = err_from_is_err_and c.from_residual.result c.from_residual.ensures.1 in
    rw (p.1, p.2) record {
      said = sym e ∙ cells-refused given (i.c + 1) given.shape.cells (omega (arith, c.loop-c-test.true)) (subst Refusal (sym e) tt);
      made = λ u f. cc;
    }

pub loop-c-preserved : goal.loop-c-preserved
loop-c-preserved c =
    let given : Given = given_by c.args.l.now in
    let i = c.loop-c in
    let v = c.train_cell_at.ensures in
    let long = c.subs_long-long.ensures in
    record {
      reached = sym v.said ∙ c.in_ok-used.was;
      made = v.placed _ c.in_ok-used.was
          ∙ join_step (cell_centers given) (λ (q : ℕ). q * _) (centers-evenly given _ long) i.c _ c.args.subs.now i.subs _ i.invariant.made refl (centers-long given i.c ∙ sym long);
    }

pub returns : goal.returns
returns c =
    let given : Given = given_by c.args.l.now in
    let i = c.loop-c in
    let long = c.subs_long-long.ensures in
    let e : i.c ≡ given.shape.cells = omega (arith, c.loop-c-test.false) in
    record {
      said = sym (rw e at i.invariant.reached);
      made = λ u f. join-done (cell_centers given) (λ (q : ℕ). q * _) (centers-evenly given _ long) i.c given.shape.cells c.args.subs.now i.subs i.invariant.made e
          (omega (arith, c.requires.cells_lent.subs-long ∙ ap (λ (x : ℕ). given.shape.cells * x) (sym long)));
    }
