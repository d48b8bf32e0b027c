-- `check_refusal`: each return is the first test that holds, those before it having failed.
use mathlib.Core.Path.{sym, ◌∙◌}
use Rattle.pq_params.specs.Refusals.{check_tests}
use Rattle.pq_params.proofs.check_refusal.Goals as goal

pub returns-then-bad : goal.returns-then-bad
unfolding check_tests
returns-then-bad c =
    rw c.if-bad.true

pub returns-then-too_many_rows : goal.returns-then-too_many_rows
unfolding check_tests
returns-then-too_many_rows c =
    rw (c.if-bad.false, sym c.too_many_rows.ensures ∙ c.if-too_many_rows.true)

pub returns-then-wrong : goal.returns-then-wrong
unfolding check_tests
returns-then-wrong c =
    rw (c.if-bad.false, sym c.too_many_rows.ensures ∙ c.if-too_many_rows.false, c.if-wrong.true)

pub returns : goal.returns
unfolding check_tests
returns c =
    rw (c.if-bad.false, sym c.too_many_rows.ensures ∙ c.if-too_many_rows.false, c.if-wrong.false)
