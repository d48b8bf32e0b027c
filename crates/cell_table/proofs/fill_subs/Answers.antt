-- `fill_subs`: the sub-spaces passed are finite and stored, and the first that refuses ends the walk.
use Rattle.std.proofs.Common.{refl, ◌∙◌, arith, rules, below_more}
use Rattle.std.proofs.lemmas.Result.{err_from_is_err_and}
use Rattle.lists.proofs.Joins.{grid-none, grid-step, grid-done}
use Rattle.cell_table.specs.Tables.{query_of}
use Rattle.cell_table.specs.TablesInner.{stretch_entry}
use Rattle.cell_table.proofs.Entries.{parts-as}
use Rattle.cell_table.proofs.Marks.{ok-finite, filled-refused, filled-whole}
use Rattle.cell_table.proofs.fill_subs.Goals as goal

pub loop-s-init : goal.loop-s-init
loop-s-init c = record { long = refl; finite = λ i h. absurd (omega arith); stored = grid-none _ _ _ }

pub fill_sub-requires : goal.fill_sub-requires
fill_sub-requires c = record { parts = parts-as _ _ c.requires c.loop-s.invariant.long; s_lt_nsub = c.loop-s-test.true }

pub returns-in_err-fill_sub : goal.returns-in_err-fill_sub
returns-in_err-fill_sub c =
    let a = c.args in
    let f = stretch_entry a.z.shape a.centers (query_of a.z) a.own.now in
    let p = err_from_is_err_and c.from_residual.result c.from_residual.ensures.1 in
    rw (p.1, p.2) (filled-refused f a.z.shape.nsub a.centers c.loop-s.s _ _ c.loop-s-test.true c.in_err-fill_sub.ensures.answer)

pub loop-s-preserved : goal.loop-s-preserved
loop-s-preserved c =
    let t = ok-finite _ c.in_ok-fill_sub.ensures.answer in record {
      long = search rules;
      finite = below_more _ _ c.loop-s.invariant.finite t;
      stored = c.in_ok-fill_sub.ensures.entries t ∙ grid-step _ _ _ _ _ _ c.loop-s.invariant.stored refl;
    }

pub returns : goal.returns
returns c =
    let a = c.args in
    let f = stretch_entry a.z.shape a.centers (query_of a.z) a.own.now in
    filled-whole f a.z.shape.nsub a.centers _ (λ i h. c.loop-s.invariant.finite i (omega arith))
    (grid-done _ _ _ _ _ _ c.loop-s.invariant.stored (search rules) (omega (arith, c.requires.table-long)))
