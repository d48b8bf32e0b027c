-- `bad_plain` joins one test to `bad_range`'s, as the list of tests does.
use Rattle.pq_params.proofs.bad_plain.Goals as goal

pub returns : goal.returns
returns c = rw c.bad_range.ensures
