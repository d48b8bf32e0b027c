-- `plain_lengths`: tests 1 and 3, then the lengths.
use mathlib.Core.Path.{sym, ◌∙◌}
use borrow.Author.Tests.{ltb-false}
use Rattle.pq_params.specs.Lengths.{plain_lengths}
use Rattle.pq_params.proofs.plain_lengths.Goals as goal

pub returns-then-bad_plain : goal.returns-then-bad_plain
unfolding plain_lengths
returns-then-bad_plain c = rw (c.refused_plain.ensures, ← c.bad_plain.ensures, c.if-bad_plain.true)

pub returns-then-too_many_rows : goal.returns-then-too_many_rows
unfolding plain_lengths
returns-then-too_many_rows c =
    rw (
      c.refused_plain-then-too_many_rows.ensures,
      ← c.bad_plain.ensures,
      c.if-bad_plain.false,
      ← c.too_many_rows.ensures,
      c.if-too_many_rows.true,
    )

pub plain_sizes-requires : goal.plain_sizes-requires
plain_sizes-requires c =
    (sym c.bad_plain.ensures ∙ c.if-bad_plain.false, ltb-false 100_001 _ (sym c.too_many_rows.ensures ∙ c.if-too_many_rows.false))

pub returns : goal.returns
unfolding plain_lengths
returns c =
    rw (
      c.plain_sizes.ensures,
      ← c.bad_plain.ensures,
      c.if-bad_plain.false,
      ← c.too_many_rows.ensures,
      c.if-too_many_rows.false,
    )
