use mathlib.Core.Path.{◌∙◌}
use Rattle.metrics.proofs.Laws.{stretch-distance}
use Rattle.kmeans_assign.proofs.distance_to.Goals as goal

pub returns : goal.returns
returns c = c.distance.ensures ∙ stretch-distance _ _ _ _ _ c.stretch-c.ensures
