use Rattle.std.proofs.Common.{refl, length, ap, ◌∙◌, Ok}
use Rattle.lists.proofs.Joins.{length-grid}
use Rattle.kmeans_average.specs.Average.{average_at}
use Rattle.kmeans_assign.specs.Task.{row_given}
use Rattle.kmeans_split.specs.Run.{run_of}
use Rattle.kmeans_average.proofs.Averaging.{assigned-of}
use Rattle.kmeans.proofs.Training.{averaged-run}
use Rattle.kmeans.proofs.average.Goals as goal

pub update_center-requires-clause-assigned : goal.update_center-requires-clause-assigned
update_center-requires-clause-assigned c =
    let g = c.args.g in
    assigned-of g.frame (row_given g) c.args.centers.now _ refl refl c.requires.framed.some-center c.search_data.ensures

pub tested-requires : goal.tested-requires
tested-requires c =
    let f = c.args.g.frame in
    (ap length c.update_center.ensures.0 ∙ length-grid (average_at (row_given c.args.g) _) f.centers f.w, c.requires.framed.centers-le)

pub returns : goal.returns
returns c =
    let a = c.args in
    let u = c.update_center.ensures in
    averaged-run (row_given a.g) a.epoch a.used (run_of (Ok a.used) a.centers.now a.assigned.now a.counts.now) _ _ _ _ c.search_data.ensures u.0 u.1 c.tested.ensures
