-- `plain_sizes`: within the bounds every product fits.
use lib.Dec.{lit<}
use Rattle.pq_params.proofs.Numbers.{numbers, fits-mul}
use Rattle.pq_params.proofs.plain_sizes.Goals as goal

pub overflow_mul-result : goal.overflow_mul-result
overflow_mul-result c =
    fits-mul _ _ c.requires.1 (numbers c.args.s c.requires.0).d-most (lit< tt)

pub overflow_mul-result-2 : goal.overflow_mul-result-2
overflow_mul-result-2 c =
    fits-mul _ _ c.requires.1 (numbers c.args.s c.requires.0).nsub-most (lit< tt)

pub returns : goal.returns
returns c = rw (c.subs_long-subs.ensures, c.table_long-table.ensures)
