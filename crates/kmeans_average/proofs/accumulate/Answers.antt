use Rattle.std.proofs.Common.{◌≡◌, ◌<◌, length, ap, ◌∙◌, arith}
use Rattle.lists.specs.Tests.{count}
use Rattle.lists.proofs.Tables.{length-tab}
use Rattle.lists.proofs.Joins.{within, length-grid, grid-fill}
use Rattle.lists.proofs.Counts.{count_to, count-more, few-counted}
use Rattle.kmeans_average.specs.Average.{sum_where}
use Rattle.kmeans_average.specs.AverageInner.{center_sum}
use Rattle.kmeans_assign.specs.Task.{row_given}
use Rattle.kmeans_assign.proofs.Rows.{row-value}
use Rattle.kmeans_average.proofs.Averaging.{own-below, center-step}
use Rattle.kmeans_average.proofs.accumulate.Goals as goal

pub loop-k-init : goal.loop-k-init
unfolding sum_where count
loop-k-init c = record { centers-are = c.requires.centers_value.0 ∙ grid-fill _ _ _; counts-are = c.requires.centers_value.1 }

pub add_to_center-requires-clause-centers_len : goal.add_to_center-requires-clause-centers_len
add_to_center-requires-clause-centers_len c =
    let f = c.args.g.frame in
    let h = own-below c.requires.assigned c.loop-k-test.true c.wide-a.ensures in
    rw c.row_range.ensures.long (omega (arith, within c.wide-a.result f.centers f.w h, ap length c.loop-k.invariant.centers-are, length-grid (center_sum (row_given c.args.g) c.args.assigned.now c.loop-k.k) f.centers f.w))

pub count_one-requires : goal.count_one-requires
count_one-requires c =
    let f = c.args.g.frame in
    let i = c.loop-k in
    let h : c.wide-a.result < f.centers = own-below c.requires.assigned c.loop-k-test.true c.wide-a.ensures in (
      omega (arith, ap length i.invariant.counts-are, length-tab (count_to c.args.assigned.now i.k) f.centers),
      omega (arith, few-counted c.args.assigned.now i.k f.centers c.wide-a.result i.counts i.invariant.counts-are h, c.requires.assigned.long, c.requires.framed.rows-le),
    )

pub loop-k-preserved : goal.loop-k-preserved
loop-k-preserved c =
    let b = c.args in
    let f = b.g.frame in
    let i = c.loop-k in
    let a = c.wide-a.result in
    let x = c.row_range in
    let h = own-below c.requires.assigned c.loop-k-test.true c.wide-a.ensures in
    record {
      centers-are = c.add_to_center.ensures ∙ rw x.ensures.long (center-step (row_given b.g) b.assigned.now i.k f.centers f.w a i.centers x.result.now _ h c.wide-a.ensures i.invariant.centers-are (λ j l. row-value b.g i.k j x.ensures l));
      counts-are = c.count_one.ensures ∙ count-more b.assigned.now i.k f.centers a i.counts c.wide-a.ensures i.invariant.counts-are;
    }

pub returns : goal.returns
returns c =
    let e : c.loop-k.k ≡ c.args.g.frame.n = omega arith in
    rw (← e) (c.loop-k.invariant.centers-are, c.loop-k.invariant.counts-are)
