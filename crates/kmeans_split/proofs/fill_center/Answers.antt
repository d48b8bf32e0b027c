use Rattle.std.proofs.Common.{arith, Ok}
use Rattle.kmeans_split.specs.Split.{split_off, split_task}
use Rattle.kmeans_split.specs.Run.{run_with}
use Rattle.kmeans_split.proofs.Runs.{fill-split, fill-out}
use Rattle.kmeans_split.proofs.Donor.{steps-below, donor-rule}
use Rattle.kmeans_split.proofs.fill_center.Goals as goal

pub returns-in_default : goal.returns-in_default
returns-in_default c =
    let a = c.args in
    λ to. fill-out (split_task a.f a.draws.now) a.epoch a.i a.used (run_with (Ok a.used) a.centers.now a.counts.now to) c.in_default.ensures

pub overflow_add-a-2 : goal.overflow_add-a-2
overflow_add-a-2 c =
    let a = c.args in
    record { fits = omega (arith, steps-below (split_task a.f a.draws.now) a.counts.now a.used a.i c.in-Some.s c.in-Some.ensures, c.requires.splittable.drawn) }

pub overflow_add-used : goal.overflow_add-used
overflow_add-used c =
    let a = c.args in
    record { fits = omega (arith, steps-below (split_task a.f a.draws.now) a.counts.now a.used a.i c.in-Some.s c.in-Some.ensures, c.requires.splittable.drawn) }

pub overflow_add-used-2 : goal.overflow_add-used-2
overflow_add-used-2 c =
    let a = c.args in
    record { fits = omega (arith, steps-below (split_task a.f a.draws.now) a.counts.now a.used a.i c.in-Some.s c.in-Some.ensures, c.requires.splittable.drawn) }

pub split_off-requires : goal.split_off-requires
split_off-requires c =
    let a = c.args in
    let p = c.requires.splittable in
    let d = donor-rule (split_task a.f a.draws.now) a.counts.now a.used a.i c.in-Some.s p.in-range c.requires.i_lt_centers.0 c.requires.i_lt_centers.1 c.in-Some.ensures in
    (p.centers-le, c.requires.i_lt_centers.0, d.below, d.other, p.centers-long, p.counts-long)

pub returns : goal.returns
unfolding split_off
returns c =
    let a = c.args in
    λ to. fill-split (split_task a.f a.draws.now) a.epoch a.i a.used c.in-Some.s (run_with (Ok a.used) a.centers.now a.counts.now to) _ c.in-Some.ensures (c.split_off.ensures to)
