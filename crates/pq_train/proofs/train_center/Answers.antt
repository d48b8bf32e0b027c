use Rattle.std.proofs.Common.{◌≡◌, length, refl, sym, subst, ◌∙◌, arith, Ok}
use Rattle.std.proofs.lemmas.Result.{err_from_is_err_and}
use Rattle.lists.proofs.Joins.{join-none, join_step, join-done}
use Rattle.kmeans_split.specs.SplitFacts.{Drawn}
use Rattle.kmeans.proofs.Reached.{train-drawn, train-sized}
use Rattle.answers.specs.declared.Stage.TheVariants.{Sub}
use Rattle.answers.specs.Answers.{draws_used}
use Rattle.pq_train.specs.Training.{reached, centers_at, task_of, sub_centers}
use Rattle.pq_train.specs.Inner.{listed_of, stretch_at, stretch_long}
use Rattle.pq_train.proofs.Laws.{reached-step, reached-refused, staged-done, centers-begin, centers-reached}
use Rattle.pq_train.proofs.train_center.Goals as goal

pub loop-s-init : goal.loop-s-init
unfolding reached
loop-s-init c =
    let a = c.args in
    let l = listed_of a.l a.draws.now a.start in
    record { drawn = c.requires.lent.drawn; so-far = refl; made = join-none (centers_at l) (stretch_at a.l.shape) (centers-begin l) a.subs.now }

pub returns-in_err-used : goal.returns-in_err-used
returns-in_err-used c =
    let a = c.args in
    let i = c.loop-s in
    let l = listed_of a.l a.draws.now a.start in
    let v = c.train_sub-c in
    let p = err_from_is_err_and c.from_residual.result c.from_residual.ensures.1 in
    rw (p.1, p.2) record { said = reached-refused l i.s a.l.shape.nsub i.used v.result _ i.invariant.so-far v.ensures.said c.in_err-used.ensures c.loop-s-test.true; made = λ u e. cc }

pub loop-s-preserved : goal.loop-s-preserved
loop-s-preserved c =
    let a = c.args in
    let i = c.loop-s in
    let l = listed_of a.l a.draws.now a.start in
    let v = c.train_sub-c in
    let k = v.ensures in
    let g : v.result ≡ Ok c.in_ok-used.used = staged-done (Sub a.l.cell i.s) v.result c.in_ok-used.used c.in_ok-used.ensures in
    record {
      drawn = (subst (Drawn i.used (length a.draws.now)) (sym k.said ∙ g) (train-drawn (task_of l i.s) i.used i.invariant.drawn)).1;
      so-far = reached-step l i.s i.used v.result i.invariant.so-far k.said ∙ sym c.in_ok-used.ensures;
      made = k.placed ∙ join_step (centers_at l) (stretch_at a.l.shape) (centers-begin l) i.s (stretch_long a.l.shape i.s) a.subs.now i.subs _ i.invariant.made (centers-reached l i.s i.used i.invariant.so-far) (train-sized (task_of l i.s) (draws_used (reached l i.s)));
    }

pub returns : goal.returns
unfolding sub_centers
returns c =
    let a = c.args in
    let i = c.loop-s in
    let l = listed_of a.l a.draws.now a.start in
    let e : i.s ≡ a.l.shape.nsub = omega arith in
    record {
      said = sym (rw e at i.invariant.so-far);
      made = λ u f. join-done (centers_at l) (stretch_at a.l.shape) (centers-begin l) i.s a.l.shape.nsub a.subs.now i.subs i.invariant.made e (omega (arith, c.requires.lent.subs-long));
    }
