use Rattle.std.proofs.Common.{length, ap, refl, ◌∙◌, rules}
use Rattle.std.proofs.lemmas.Result.{err_from_is_err_and}
use Rattle.lists.specs.Lists.{fill}
use Rattle.lists.proofs.Joins.{length-grid}
use Rattle.kmeans_start.specs.Start.{start_at}
use Rattle.kmeans_assign.specs.Task.{task_given}
use Rattle.kmeans.proofs.Training.{beginning-run, beginning-done, beginning-refused}
use Rattle.kmeans_start.proofs.Starting.{started-same}
use Rattle.kmeans_split.proofs.Runs.{reached}
use Rattle.kmeans.proofs.train.Goals as goal

pub tested-requires : goal.tested-requires
tested-requires c =
    let f = c.args.g.frame in
    (ap length c.init_center.ensures ∙ length-grid (start_at _) f.centers f.w, c.requires.framed.centers-le)

pub returns-in_err-tested : goal.returns-in_err-tested
returns-in_err-tested c =
    let a = c.args in
    let t = task_given a.g a.epochs a.draws.now in
    let p = err_from_is_err_and c.from_residual.result c.from_residual.ensures.1 in
    let l = c.requires.trainable in
    rw (p.1, p.2) (reached (beginning-refused t a.used _
    (beginning-run t a.used _ _ _ _ (c.init_center.ensures ∙ started-same a.g a.draws.now a.epochs) (c.fill.ensures ∙ ap (fill 0) l.assigned-long) (c.fill-2.ensures ∙ ap (fill 0) l.counts-long) c.in_err-tested.ensures)
    tt))

pub run_epochs-requires : goal.run_epochs-requires
run_epochs-requires c =
    let a = c.args in
    let l = c.requires.trainable in
    let t = task_given a.g a.epochs a.draws.now in
    let e = c.init_center.ensures ∙ started-same a.g a.draws.now a.epochs in
    let b = beginning-run t a.used _ _ _ _ e (c.fill.ensures ∙ ap (fill 0) l.assigned-long) (c.fill-2.ensures ∙ ap (fill 0) l.counts-long) c.in_ok-tested.ensures in
    record {
      framed = c.requires.framed;
      trainable = record { centers-long = search rules; assigned-long = search rules; counts-long = search rules; in-range = l.in-range; drawn = l.drawn };
      fact = (c.requires.epochs_bound, rw (beginning-done t a.used c.in_ok-tested.field-0 _ b refl) at b);
    }

pub returns : goal.returns
returns c = reached c.run_epochs.ensures
