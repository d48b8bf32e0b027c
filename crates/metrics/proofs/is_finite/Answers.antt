use Rattle.metrics.proofs.Laws.{zero_same}
use Rattle.metrics.proofs.is_finite.Goals as goal

pub returns : goal.returns
returns c = zero_same c.args.x
