-- `table_long`: n_sub is at most 64 and K at most 256.
use Prim.Native.Nat.{◌≤◌}
use lib.Dec.{lit<}
use Rattle.pq_params.proofs.Numbers.{numbers, fits-mul}
use Rattle.pq_params.proofs.table_long.Goals as goal

pub overflow_mul-result : goal.overflow_mul-result
overflow_mul-result c =
    let s = numbers c.args.s c.requires in
    let k : c.centers-k.result ≤ 256 = rw c.centers-k.ensures s.centers-most in
    fits-mul _ c.centers-k.result s.nsub-most k (lit< tt)

pub returns : goal.returns
returns c = rw c.centers-k.ensures
