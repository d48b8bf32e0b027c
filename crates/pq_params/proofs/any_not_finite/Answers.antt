-- `any_not_finite` is the negation of `all_finite`.
use Rattle.pq_params.specs.Refusals.{any_not_finite}
use mathlib.Core.Bool.{not}
use mathlib.Core.Path.{ap}
use Rattle.pq_params.proofs.any_not_finite.Goals as goal

pub returns : goal.returns
unfolding any_not_finite
returns c = ap not c.all_finite.ensures
