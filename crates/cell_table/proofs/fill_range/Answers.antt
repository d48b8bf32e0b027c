-- `fill_range`: the entries passed are finite and stored, and the first mark ends the walk.
use Rattle.std.proofs.Common.{◌≡◌, sym, ◌∙◌, arith, rules, length, below_more}
use Rattle.std.specs.Prelude.{None, option_copied}
use Rattle.std.specs.Float.{nan}
use Rattle.lists.proofs.Joins.{within}
use Rattle.lists.proofs.Tables.{tab-none, tab-step, tab-done}
use Rattle.metrics.proofs.Laws.{stretch-distance, unmarked, carried}
use Rattle.metrics.specs.Distance.{worked}
use Rattle.cell_table.specs.TablesInner.{distance_at}
use Rattle.cell_table.proofs.Marks.{stored-refused, stored-whole}
use Rattle.cell_table.proofs.fill_range.Goals as goal

pub loop-q-init : goal.loop-q-init
loop-q-init c = record { finite = λ k h. absurd (omega arith); stored = tab-none _ _ }

pub stretch-c-requires : goal.stretch-c-requires
stretch-c-requires c =
    let h = within c.loop-q.q (length c.args.out.now) (length c.args.x.now) (search rules) in
    omega arith

pub returns-in_default : goal.returns-in_default
returns-in_default c =
    let a = c.args in
    let f = distance_at a.x.now (option_copied a.residual) a.centers.now (length a.x.now) in
    let e : worked (f c.loop-q.q) ≡ None = sym (stretch-distance _ _ _ _ _ c.stretch-c.ensures) ∙ sym c.in_default.ensures in
    stored-refused f (length a.out.now) c.loop-q.q _ (search rules) e

pub loop-q-preserved : goal.loop-q-preserved
loop-q-preserved c =
    let e = sym (stretch-distance _ _ _ _ _ c.stretch-c.ensures) ∙ sym c.in-Some.ensures in
    record {
      finite = below_more _ _ c.loop-q.invariant.finite (unmarked _ _ e);
      stored = tab-step _ _ _ _ _ nan (search rules) c.loop-q.invariant.stored (carried _ _ e);
    }

pub returns : goal.returns
returns c =
    let a = c.args in
    let f = distance_at a.x.now (option_copied a.residual) a.centers.now (length a.x.now) in
    stored-whole f (length a.out.now) _ (λ i h. c.loop-q.invariant.finite i (omega arith))
    (tab-done _ _ _ _ _ c.loop-q.invariant.stored (search rules) (search rules) (search rules))
