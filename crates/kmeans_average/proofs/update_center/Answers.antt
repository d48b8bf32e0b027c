use Prim.Native.Nat.{ℕ, ◌*◌}
use mathlib.Core.Path.{sym, ◌∙◌, ap}
use lib.ListN.{length}
use Rattle.lists.specs.Lists.{fill}
use Rattle.lists.proofs.Tables.{length-tab}
use Rattle.lists.proofs.Joins.{length-grid}
use Rattle.metrics.specs.Distance.{zero32}
use Rattle.kmeans_average.specs.Average.{count_at}
use Rattle.kmeans_assign.specs.Task.{row_given}
use Rattle.kmeans_average.specs.AverageInner.{center_sum}
use Rattle.kmeans_average.proofs.Averaging.{means-average}
use Rattle.kmeans_average.proofs.update_center.Goals as goal

pub accumulate-requires : goal.accumulate-requires
accumulate-requires c =
    record { framed = c.requires.framed; assigned = c.requires.assigned; centers_value = (c.fill.ensures ∙ ap (fill zero32) c.requires.centers_len.0, c.fill-2.ensures ∙ ap (fill 0) c.requires.centers_len.1) }

pub mean_centers-requires : goal.mean_centers-requires
mean_centers-requires c =
    let b = c.args in
    let t = row_given b.g in
    let a = c.accumulate.ensures in
    ap length a.0 ∙ length-grid (center_sum t b.assigned.now b.g.frame.n) b.g.frame.centers b.g.frame.w ∙ ap (λ (n : ℕ). n * b.g.frame.w) (sym (ap length a.1 ∙ length-tab (count_at t b.assigned.now) b.g.frame.centers))

pub returns : goal.returns
returns c =
    let b = c.args in
    let t = row_given b.g in
    let a = c.accumulate.ensures in (
      c.mean_centers.ensures ∙ rw (ap length a.1 ∙ length-tab (count_at t b.assigned.now) b.g.frame.centers) (means-average t b.assigned.now _ _ a.0 a.1),
      a.1,
    )
