-- `fill_table`: the cell's own stretch gives the entries of the whole buffer; a table that is refused becomes zero.
use Rattle.std.proofs.Common.{arith, sym, ◌∙◌}
use Rattle.pq_params.proofs.Numbers.{numbers}
use Rattle.cell_table.proofs.Entries.{parts-of, tabled-done, tabled-zero}
use Rattle.cell_table.proofs.fill_table.Goals as goal

pub centers-centers-requires : goal.centers-centers-requires
centers-centers-requires c = (numbers c.args.z.shape c.requires.plain).bits_most

pub stretch-own-requires : goal.stretch-own-requires
stretch-own-requires c = rw c.subs_long.ensures c.requires.subs-held

pub fill_subs-filled-requires : goal.fill_subs-filled-requires
fill_subs-filled-requires c =
    parts-of c.args.z _ c.centers-centers.ensures _ c.subs_long.ensures _ c.stretch-own.ensures c.requires (numbers c.args.z.shape c.requires.plain).range

pub returns-then-is_err : goal.returns-then-is_err
returns-then-is_err c =
    tabled-zero c.args.z _ c.centers-centers.ensures _ c.subs_long.ensures _ c.stretch-own.ensures _ _ _ c.fill_subs-filled.ensures
    (sym c.is_err.ensures.value ∙ c.if-is_err.true) (omega (arith, c.requires.table-long)) c.fill.ensures

pub returns-else-is_err : goal.returns-else-is_err
returns-else-is_err c =
    tabled-done c.args.z _ c.centers-centers.ensures _ c.subs_long.ensures _ c.stretch-own.ensures _ _ c.fill_subs-filled.ensures
    (sym c.is_err.ensures.value ∙ c.if-is_err.false)
