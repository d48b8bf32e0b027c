use Rattle.std.proofs.Common.{◌≡◌, length, sym, ap, ◌∙◌, arith}
use Rattle.lists.proofs.Tables.{length-tab}
use Rattle.metrics.specs.Distance.{sum_to}
use Rattle.kmeans_assign.specs.Task.{row_given}
use Rattle.kmeans_assign.proofs.Rows.{residual-held, row-value}
use Rattle.kmeans_start.proofs.Starting.{column-step}
use Rattle.kmeans_start.proofs.sum_rows.Goals as goal

pub loop-k-init : goal.loop-k-init
unfolding sum_to
loop-k-init c = c.requires.sums_value

pub add_into-requires : goal.add_into-requires
add_into-requires c =
    let l = ap length c.loop-k.invariant ∙ length-tab _ _ in
    record { x_len = c.row_range.ensures.long ∙ sym l; residual_len = residual-held c.args.g _ c.requires.framed l }

pub loop-k-preserved : goal.loop-k-preserved
loop-k-preserved c =
    let g = c.args.g in
    let i = c.loop-k in
    c.add_into.ensures ∙ column-step (row_given g) i.k g.frame.w i.sums _ _ i.invariant (λ j h. row-value g i.k j c.row_range.ensures h)

pub returns : goal.returns
returns c =
    let e : c.loop-k.k ≡ c.args.g.frame.n = omega arith in
    rw (← e) c.loop-k.invariant
