-- `subs_long`: K is at most 256 and C at most D.
use Prim.Native.Nat.{◌≤◌}
use native.Mathlib.Omega.{arith}
use lib.Dec.{lit<}
use Rattle.pq_params.proofs.Numbers.{numbers, fits-mul}
use Rattle.pq_params.proofs.subs_long.Goals as goal

pub overflow_mul-result : goal.overflow_mul-result
overflow_mul-result c =
    let s = numbers c.args.s c.requires in
    let k : c.centers-k.result ≤ 256 = rw c.centers-k.ensures s.centers-most in
    let v : c.covered-c.result ≤ 256 = rw c.covered-c.ensures (omega (arith, s.covered-within, s.d-most)) in
    fits-mul c.centers-k.result c.covered-c.result k v (lit< tt)

pub returns : goal.returns
returns c = rw (c.centers-k.ensures, c.covered-c.ensures)
