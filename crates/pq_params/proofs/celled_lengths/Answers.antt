-- `celled_lengths`: tests 1 and 3, then the lengths.
use mathlib.Core.Path.{sym, ◌∙◌}
use borrow.Author.Tests.{ltb-false}
use Rattle.pq_params.specs.Lengths.{celled_lengths}
use Rattle.pq_params.proofs.celled_lengths.Goals as goal

pub returns-then-bad_celled : goal.returns-then-bad_celled
unfolding celled_lengths
returns-then-bad_celled c = rw (c.refused_celled.ensures, ← c.bad_celled.ensures, c.if-bad_celled.true)

pub returns-then-too_many_rows : goal.returns-then-too_many_rows
unfolding celled_lengths
returns-then-too_many_rows c =
    rw (
      c.refused_celled-then-too_many_rows.ensures,
      ← c.bad_celled.ensures,
      c.if-bad_celled.false,
      ← c.too_many_rows.ensures,
      c.if-too_many_rows.true,
    )

pub celled_sizes-requires : goal.celled_sizes-requires
celled_sizes-requires c =
    (sym c.bad_celled.ensures ∙ c.if-bad_celled.false, ltb-false 100_001 _ (sym c.too_many_rows.ensures ∙ c.if-too_many_rows.false))

pub returns : goal.returns
unfolding celled_lengths
returns c =
    rw (
      c.celled_sizes.ensures,
      ← c.bad_celled.ensures,
      c.if-bad_celled.false,
      ← c.too_many_rows.ensures,
      c.if-too_many_rows.false,
    )
