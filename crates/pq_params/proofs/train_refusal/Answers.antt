-- `train_refusal`: each return is the first test that holds, those before it having failed.
use mathlib.Core.Path.{sym, ◌∙◌}
use borrow.Author.Tests.{eq-eqb, ne_eqb}
use Rattle.pq_params.specs.Refusals.{train_tests}
use Rattle.pq_params.proofs.train_refusal.Goals as goal

pub returns-then-bad : goal.returns-then-bad
unfolding train_tests
returns-then-bad c =
    rw c.if-bad.true

pub returns-then-n-eq0 : goal.returns-then-n-eq0
unfolding train_tests
returns-then-n-eq0 c =
    rw (c.if-bad.false, eq-eqb _ _ c.if-n-eq0.true)

pub returns-then-too_many_rows : goal.returns-then-too_many_rows
unfolding train_tests
returns-then-too_many_rows c =
    rw (c.if-bad.false, ne_eqb _ _ c.if-n-eq0.false, sym c.too_many_rows.ensures ∙ c.if-too_many_rows.true)

pub returns-then-wrong : goal.returns-then-wrong
unfolding train_tests
returns-then-wrong c =
    rw (c.if-bad.false, ne_eqb _ _ c.if-n-eq0.false, sym c.too_many_rows.ensures ∙ c.if-too_many_rows.false, c.if-wrong.true)

pub returns-then-any_not_finite : goal.returns-then-any_not_finite
unfolding train_tests
returns-then-any_not_finite c =
    rw (c.if-bad.false, ne_eqb _ _ c.if-n-eq0.false, sym c.too_many_rows.ensures ∙ c.if-too_many_rows.false, c.if-wrong.false, sym c.any_not_finite.ensures ∙ c.if-any_not_finite.true)

pub returns-then-any_draw_out : goal.returns-then-any_draw_out
unfolding train_tests
returns-then-any_draw_out c =
    rw (c.if-bad.false, ne_eqb _ _ c.if-n-eq0.false, sym c.too_many_rows.ensures ∙ c.if-too_many_rows.false, c.if-wrong.false, sym c.any_not_finite.ensures ∙ c.if-any_not_finite.false, sym c.any_draw_out.ensures ∙ c.if-any_draw_out.true)

pub returns : goal.returns
unfolding train_tests
returns c =
    rw (c.if-bad.false, ne_eqb _ _ c.if-n-eq0.false, sym c.too_many_rows.ensures ∙ c.if-too_many_rows.false, c.if-wrong.false, sym c.any_not_finite.ensures ∙ c.if-any_not_finite.false, sym c.any_draw_out.ensures ∙ c.if-any_draw_out.false)
