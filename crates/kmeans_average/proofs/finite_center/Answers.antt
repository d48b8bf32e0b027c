use mathlib.Core.Path.{◌∙◌}
use Rattle.kmeans_average.proofs.Finite.{stretch-finite}
use Rattle.kmeans_average.proofs.finite_center.Goals as goal

pub returns : goal.returns
returns c = c.all_finite.ensures ∙ stretch-finite _ _ _ _ c.stretch-c.ensures
