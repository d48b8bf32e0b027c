use Rattle.std.proofs.Common.{◌≡◌, true, false, rules, tests}
use Rattle.std.proofs.lemmas.Iterator.{first_from_Range}
use Rattle.kmeans_average.specs.Finite.{broken_center}
use Rattle.kmeans_average.proofs.Finite.{lowest-found}
use Rattle.kmeans_average.proofs.lowest_broken.Goals as goal

pub returns : goal.returns
returns c =
    let broken = broken_center c.args.centers.now c.args.w in
    lowest-found broken c.args.n c.find.result
    (first_from_Range _ _ _ c.find.result (λ i. broken i ≡ true) (λ i. broken i ≡ false) c.find.ensures.ran (λ x q k. search (rules, tests)) (λ x q k. search (rules, tests)))
