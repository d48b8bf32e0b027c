use Rattle.std.proofs.Common.{ℕ, ◌*◌, length, sym, ap, ◌∙◌}
use Rattle.lists.specs.Lists.{tab}
use Rattle.lists.proofs.Tables.{length-tab}
use Rattle.kmeans_start.specs.StartInner.{column_sum, mean_in}
use Rattle.kmeans_assign.specs.Task.{row_given}
use Rattle.kmeans_start.proofs.Starting.{means-of, start-mean}
use Rattle.kmeans_start.proofs.start_from.Goals as goal

pub start_centers-requires : goal.start_centers-requires
start_centers-requires c =
    let a = c.args in
    let t = row_given a.g in
    let l = ap length (means-of t _ _ c.sum_rows.ensures c.mean_into.ensures) ∙ length-tab (mean_in (tab (column_sum t a.g.frame.n) a.g.frame.w) a.g.frame.n) a.g.frame.w in
    c.requires.mean_value.1 ∙ ap (λ (w : ℕ). a.g.frame.centers * w) (sym l)

pub returns : goal.returns
returns c =
    let a = c.args in
    let t = row_given a.g in
    let m = means-of t _ _ c.sum_rows.ensures c.mean_into.ensures in
    let l = ap length m ∙ length-tab (mean_in (tab (column_sum t a.g.frame.n) a.g.frame.w) a.g.frame.n) a.g.frame.w in
    (m, c.start_centers.ensures ∙ rw l (start-mean t _ c.requires.framed.some-row m))
