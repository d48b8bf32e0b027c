use Rattle.std.proofs.Common.{refl, ◌∙◌, rules, Ok}
use Rattle.std.proofs.lemmas.Result.{err_from_is_err_and}
use Rattle.kmeans_assign.specs.Task.{task_given, row_given}
use Rattle.kmeans_split.specs.Run.{run_of}
use Rattle.kmeans.proofs.Training.{averaged-same, averaged-done, epoch-refused, epoch-last, epoch-split}
use Rattle.kmeans_split.proofs.Runs.{split-same}
use Rattle.kmeans.proofs.run_epoch.Goals as goal

pub returns-in_err-at : goal.returns-in_err-at
returns-in_err-at c =
    let a = c.args in
    let r = run_of (Ok a.used) a.centers.now a.assigned.now a.counts.now in
    let p = err_from_is_err_and c.from_residual.result c.from_residual.ensures.1 in
    rw (p.1, p.2) (epoch-refused (task_given a.g a.epochs a.draws.now) a.epoch a.used r _ (c.in_err-at.ensures ∙ averaged-same a.g a.draws.now a.epochs a.epoch a.used r) tt)

pub split_center-requires : goal.split_center-requires
split_center-requires c =
    let a = c.args in
    let f = c.requires.framed in
    let t = c.requires.trainable in
    let e = averaged-done (row_given a.g) a.epoch a.used c.in_ok-at.at _ _ c.in_ok-at.ensures refl in
    record {
      rows-le = f.rows-le;
      some-center = f.some-center;
      centers-le = f.centers-le;
      wide = f.wide;
      centers-long = search rules;
      counts-long = search rules;
      in-range = t.in-range;
      drawn = rw e t.drawn;
    }

pub returns-then-epoch-epochs : goal.returns-then-epoch-epochs
returns-then-epoch-epochs c =
    let a = c.args in
    let r = run_of (Ok a.used) a.centers.now a.assigned.now a.counts.now in
    epoch-split (task_given a.g a.epochs a.draws.now) a.epoch a.used r _ _ (c.in_ok-at.ensures ∙ averaged-same a.g a.draws.now a.epochs a.epoch a.used r) c.if-epoch-epochs.true
    ((c.split_center.ensures _).run ∙ split-same a.g a.draws.now a.epochs a.epoch _ a.g.frame.centers)

pub returns-else-epoch-epochs : goal.returns-else-epoch-epochs
returns-else-epoch-epochs c =
    let a = c.args in
    let r = run_of (Ok a.used) a.centers.now a.assigned.now a.counts.now in
    epoch-last (task_given a.g a.epochs a.draws.now) a.epoch a.used r _ (c.in_ok-at.ensures ∙ averaged-same a.g a.draws.now a.epochs a.epoch a.used r) c.if-epoch-epochs.false
