-- `search_refusal`: each return is the first test that holds, those before it having failed.
use mathlib.Core.Path.{sym, ◌∙◌}
use Rattle.pq_params.specs.Refusals.{search_tests}
use Rattle.pq_params.proofs.search_refusal.Goals as goal

pub returns-then-bad : goal.returns-then-bad
unfolding search_tests
returns-then-bad c =
    rw c.if-bad.true

pub returns-then-too_many_rows : goal.returns-then-too_many_rows
unfolding search_tests
returns-then-too_many_rows c =
    rw (c.if-bad.false, sym c.too_many_rows.ensures ∙ c.if-too_many_rows.true)

pub returns-then-wrong : goal.returns-then-wrong
unfolding search_tests
returns-then-wrong c =
    rw (c.if-bad.false, sym c.too_many_rows.ensures ∙ c.if-too_many_rows.false, c.if-wrong.true)

pub returns-then-too_much_asked : goal.returns-then-too_much_asked
unfolding search_tests
returns-then-too_much_asked c =
    rw (c.if-bad.false, sym c.too_many_rows.ensures ∙ c.if-too_many_rows.false, c.if-wrong.false, sym c.too_much_asked.ensures ∙ c.if-too_much_asked.true)

pub returns-then-any_not_finite : goal.returns-then-any_not_finite
unfolding search_tests
returns-then-any_not_finite c =
    rw (c.if-bad.false, sym c.too_many_rows.ensures ∙ c.if-too_many_rows.false, c.if-wrong.false, sym c.too_much_asked.ensures ∙ c.if-too_much_asked.false, sym c.any_not_finite.ensures ∙ c.if-any_not_finite.true)

pub returns : goal.returns
unfolding search_tests
returns c =
    rw (c.if-bad.false, sym c.too_many_rows.ensures ∙ c.if-too_many_rows.false, c.if-wrong.false, sym c.too_much_asked.ensures ∙ c.if-too_much_asked.false, sym c.any_not_finite.ensures ∙ c.if-any_not_finite.false)
