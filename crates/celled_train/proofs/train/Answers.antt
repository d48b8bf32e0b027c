-- `train`: the tests, and then the work, whose outcome is the definition's.
use mathlib.Core.Path.{◌∙◌}
use native.Mathlib.Omega.{arith}
use Rattle.std.proofs.lemmas.Result.{err_from_is_err_and}
use Rattle.celled_lists.specs.Index.{index_of}
use Rattle.celled_train.specs.Outcome.{TrainIn, train_in}
use Rattle.celled_train.proofs.Tested.{ready, out-refused, out-worked}
use Rattle.celled_train.proofs.train.Goals as goal

pub returns-in_err-train_refusal : goal.returns-in_err-train_refusal
returns-in_err-train_refusal c =
    let p = err_from_is_err_and c.from_residual.result c.from_residual.ensures.1 in
    rw (p.1, p.2) (out-refused _ _ c.train_refusal.ensures _ c.in_err-train_refusal.was)

pub overflow_cast-l : goal.overflow_cast-l
overflow_cast-l c =
    let given : TrainIn = let a = c.args in
    train_in a.epochs a.rows.now a.draws.now (index_of a.s a.n a.coarse.now a.starts.now a.members.now a.subs.now a.codes.now) a.work.now in
    omega (arith, (ready given _ c.train_refusal.ensures c.in_ok-train_refusal.was).held.few-epochs)

pub train_ready-requires : goal.train_ready-requires
train_ready-requires c = ready _ _ c.train_refusal.ensures c.in_ok-train_refusal.was

pub returns : goal.returns
returns c = c.train_ready.ensures ∙ out-worked _ _ c.train_refusal.ensures c.in_ok-train_refusal.was
