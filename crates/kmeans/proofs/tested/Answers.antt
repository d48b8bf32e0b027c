use Rattle.std.proofs.Common.{sym, arith}
use Rattle.kmeans_average.specs.Finite.{broken_center}
use Rattle.kmeans_average.proofs.Finite.{lowest-below}
use Rattle.kmeans.proofs.tested.Goals as goal

pub overflow_cast-result : goal.overflow_cast-result
overflow_cast-result c =
    let a = c.args in
    record { fits = omega (arith, lowest-below (broken_center a.centers.now a.f.w) a.f.centers c.in-Some.i (sym c.in-Some.ensures), c.requires.1) }
