-- `check`: refused with nothing changed where `check_refusal` refuses, else the work.
use mathlib.Core.Path.{◌∙◌}
use Rattle.std.proofs.lemmas.Result.{err_from_is_err_and}
use Rattle.celled_check.proofs.CheckInner.{ready, out-refused, out-worked}
use Rattle.celled_check.proofs.check.Goals as goal

pub returns-in_err-check_refusal : goal.returns-in_err-check_refusal
returns-in_err-check_refusal c =
    let p = err_from_is_err_and c.from_residual.result c.from_residual.ensures.1 in
    rw (p.1, p.2) (out-refused _ _ c.check_refusal.ensures _ c.in_err-check_refusal.was)

pub check_ready-requires : goal.check_ready-requires
check_ready-requires c = ready _ _ c.check_refusal.ensures c.in_ok-check_refusal.was

pub returns : goal.returns
returns c = c.check_ready.ensures ∙ out-worked _ _ c.check_refusal.ensures c.in_ok-check_refusal.was
