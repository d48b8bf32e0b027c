use Rattle.std.proofs.Common.{◌≡◌, refl, arith, rules}
use Rattle.std.proofs.lemmas.Result.{err_from_is_err_and}
use Rattle.kmeans.specs.Kmeans.{epochs_to}
use Rattle.kmeans_assign.specs.Task.{task_given}
use Rattle.kmeans.proofs.Training.{epochs-step, epochs-refused}
use Rattle.kmeans.proofs.Reached.{epochs-drawn-at}
use Rattle.kmeans.proofs.run_epochs.Goals as goal

pub loop-e-init : goal.loop-e-init
unfolding epochs_to
loop-e-init c = c.requires.fact.1

pub run_epoch-requires-clause-trainable : goal.run_epoch-requires-clause-trainable
run_epoch-requires-clause-trainable c =
    let a = c.args in
    let l = c.loop-e in
    let p = c.requires.trainable in record {
      centers-long = search rules;
      assigned-long = search rules;
      counts-long = search rules;
      in-range = p.in-range;
      drawn = epochs-drawn-at (task_given a.g a.epochs a.draws.now) a.used l.at l.e _ l.invariant refl p.drawn;
    }

pub returns-in_err-at : goal.returns-in_err-at
returns-in_err-at c =
    let a = c.args in
    let l = c.loop-e in
    let p = err_from_is_err_and c.from_residual.result c.from_residual.ensures.1 in
    rw (p.1, p.2) (epochs-refused (task_given a.g a.epochs a.draws.now) a.used l.at l.e _ _ l.invariant refl c.in_err-at.ensures tt c.loop-e-test.true)

pub loop-e-preserved : goal.loop-e-preserved
loop-e-preserved c =
    let a = c.args in
    let l = c.loop-e in
    epochs-step (task_given a.g a.epochs a.draws.now) a.used l.at l.e _ _ l.invariant refl c.in_ok-at.ensures

pub returns : goal.returns
returns c =
    let e : c.loop-e.e ≡ c.args.epochs = omega arith in
    rw e at c.loop-e.invariant
