-- `train`: the tests, and then the work, whose outcome is the definition's.
use Rattle.std.proofs.Common.{◌∙◌}
use Rattle.std.proofs.lemmas.Result.{err_from_is_err_and}
use Rattle.plain_train.proofs.Tested.{tests-told, ready, out-refused, out-worked}
use Rattle.plain_train.proofs.train.Goals as goal

pub returns-in_err-train_refusal : goal.returns-in_err-train_refusal
returns-in_err-train_refusal c =
    let p = err_from_is_err_and c.from_residual.result c.from_residual.ensures.1 in
    rw (p.1, p.2) (out-refused _ _ (c.in_err-train_refusal.ensures ∙ tests-told _ c.bad_plain.ensures c.bad_epochs.ensures c.plain_lengths-l.ensures c.too_many_draws.ensures))

pub train_ready-requires : goal.train_ready-requires
train_ready-requires c = ready _ (c.in_ok-train_refusal.ensures ∙ tests-told _ c.bad_plain.ensures c.bad_epochs.ensures c.plain_lengths-l.ensures c.too_many_draws.ensures)

pub returns : goal.returns
returns c = c.train_ready.ensures ∙ out-worked _ (c.in_ok-train_refusal.ensures ∙ tests-told _ c.bad_plain.ensures c.bad_epochs.ensures c.plain_lengths-l.ensures c.too_many_draws.ensures)
