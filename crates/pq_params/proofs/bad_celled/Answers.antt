-- `bad_celled` joins four tests to `bad_plain`'s, as the list of tests does.
use Rattle.pq_params.proofs.bad_celled.Goals as goal

pub returns : goal.returns
returns c = rw c.bad_plain.ensures
