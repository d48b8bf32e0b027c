use Rattle.std.proofs.Common.{refl, arith, rules, [], Ok}
use Rattle.std.proofs.lemmas.Result.{err_from_is_err_and}
use Rattle.kmeans_split.specs.Split.{split_to, split_task}
use Rattle.kmeans_split.specs.Run.{run_with}
use Rattle.kmeans_split.proofs.Runs.{reached, split_step, split-refused}
use Rattle.kmeans_split.proofs.Keeping.{split-drawn}
use Rattle.kmeans_split.proofs.split_center.Goals as goal

pub loop-i-init : goal.loop-i-init
unfolding split_to
loop-i-init c = λ to. refl

pub fill_if_empty-requires-clause-splittable : goal.fill_if_empty-requires-clause-splittable
fill_if_empty-requires-clause-splittable c =
    let a = c.args in
    let l = c.loop-i in
    let p = c.requires in record {
      rows-le = p.rows-le;
      some-center = p.some-center;
      centers-le = p.centers-le;
      wide = p.wide;
      centers-long = search rules;
      counts-long = search rules;
      in-range = p.in-range;
      drawn = split-drawn (split_task a.f a.draws.now) a.used a.epoch l.at l.i _ _ (l.invariant []) refl refl (omega arith) p.drawn;
    }

pub returns-in_err-at : goal.returns-in_err-at
returns-in_err-at c =
    let a = c.args in
    let l = c.loop-i in
    let p = err_from_is_err_and c.from_residual.result c.from_residual.ensures.1 in
    rw (p.1, p.2) (λ to. reached (split-refused (split_task a.f a.draws.now) a.epoch l.at l.i a.f.centers (run_with (Ok a.used) a.centers.now a.counts.now to) _ _ (l.invariant to) refl (c.in_err-at.ensures to) tt c.loop-i-test.true))

pub loop-i-preserved : goal.loop-i-preserved
loop-i-preserved c =
    let a = c.args in
    let l = c.loop-i in
    λ to. split_step (split_task a.f a.draws.now) a.epoch l.at l.i (run_with (Ok a.used) a.centers.now a.counts.now to) _ _ (l.invariant to) refl (c.in_ok-at.ensures to)
