-- `walk_rows`: the array has room for a batch.
use native.Mathlib.Omega.{arith}
use lib.ListN.{length-take}
use Rattle.cell_walk.proofs.walk_rows.Goals as goal

pub slice_bounds-walk_by_batch-end : goal.slice_bounds-walk_by_batch-end
slice_bounds-walk_by_batch-end c = simp length-take (omega (arith, c.batch_length-b.ensures.1))

pub walk_by_batch-requires-clause-batch_len : goal.walk_by_batch-requires-clause-batch_len
walk_by_batch-requires-clause-batch_len c = simp length-take (omega (arith, c.batch_length-b.ensures.0, c.batch_length-b.ensures.1))
