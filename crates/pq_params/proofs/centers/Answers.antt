-- `centers`: a shift of 1 by at most 8 places loses no bit.
use native.Mathlib.Nat.{one-mul, mod-eq_of_lt}
use native.Mathlib.Omega.{arith}
use Rattle.pq_params.proofs.Bounds.{centers-most}
use Rattle.pq_params.proofs.centers.Goals as goal

pub returns : goal.returns
returns c = rw one-mul (mod-eq_of_lt (omega (arith, centers-most c.args.bits c.requires)))
