-- `fill_sub`: the parts of the query, the coarse centre and the sub-centres are those of the sub-space.
use Rattle.std.proofs.Common.{rules, sym, ◌∙◌}
use Rattle.std.proofs.lemmas.Option.{IfSome_then}
use native.Mathlib.Nat.{add-sub_cancel_left}
use Rattle.lists.specs.Lists.{put_part}
use Rattle.cell_table.proofs.Entries.{sub-held, stored_at}
use Rattle.cell_table.proofs.fill_sub.Goals as goal

pub part-x-requires : goal.part-x-requires
part-x-requires c = (sub-held c.requires.parts c.requires.s_lt_nsub c.range_begin-begin.ensures c.range_width-w.ensures).in_query

pub part_if-less-requires : goal.part_if-less-requires
part_if-less-requires c = (sub-held c.requires.parts c.requires.s_lt_nsub c.range_begin-begin.ensures c.range_width-w.ensures).in_center

pub overflow_mul-centers : goal.overflow_mul-centers
overflow_mul-centers c =
    let h = (sub-held c.requires.parts c.requires.s_lt_nsub c.range_begin-begin.ensures c.range_width-w.ensures).in_own in
    search rules

pub overflow_mul-centers-2 : goal.overflow_mul-centers-2
overflow_mul-centers-2 c =
    let h = (sub-held c.requires.parts c.requires.s_lt_nsub c.range_begin-begin.ensures c.range_width-w.ensures).in_own in
    search rules

pub part-c-requires : goal.part-c-requires
part-c-requires c = (sub-held c.requires.parts c.requires.s_lt_nsub c.range_begin-begin.ensures c.range_width-w.ensures).in_own

pub fill_range-requires-clause-residual_long : goal.fill_range-requires-clause-residual_long
fill_range-requires-clause-residual_long c =
    IfSome_then c.part_if-less.result c.part_if-less.ensures.long (λ r l. l ∙ sym c.part-x.ensures.long)

pub returns : goal.returns
unfolding put_part
returns c =
    let a = c.args in
    let h = (sub-held c.requires.parts c.requires.s_lt_nsub c.range_begin-begin.ensures c.range_width-w.ensures).in_table in
    stored_at a.z.shape a.centers a.z.query.now _ a.own.now a.s _ _ c.range_begin-begin.ensures c.range_width-w.ensures _ _ _
    c.part-x.ensures c.part_if-less.ensures.is c.part-c.ensures a.table.now _ _ _ _ (search rules) c.fill_range.ensures (rw add-sub_cancel_left)
