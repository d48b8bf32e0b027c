-- `celled_sizes`: within the bounds every product fits.
use Prim.Native.Nat.{◌≤◌}
use native.Mathlib.Omega.{arith}
use lib.Dec.{lit<}
use Rattle.pq_params.proofs.Bounds.{CelledBounds, celled-bounds}
use Rattle.pq_params.proofs.Numbers.{Numbers, numbers, fits-mul}
use Rattle.pq_params.proofs.celled_sizes.Goals as goal

pub plain_sizes-p-requires : goal.plain_sizes-p-requires
plain_sizes-p-requires c =
    let bounds : CelledBounds c.args.s = celled-bounds c.args.s c.requires.0 in
    (bounds.plain, c.requires.1)

pub overflow_mul-result : goal.overflow_mul-result
overflow_mul-result c =
    let bounds : CelledBounds c.args.s = celled-bounds c.args.s c.requires.0 in
    let known : Numbers c.args.s.plain = numbers c.args.s.plain bounds.plain in
    fits-mul _ _ bounds.cells-most known.d-most (lit< tt)

pub overflow_add-result : goal.overflow_add-result
overflow_add-result c =
    let bounds : CelledBounds c.args.s = celled-bounds c.args.s c.requires.0 in
    record { fits = omega (arith, bounds.cells-most) }

pub overflow_mul-result-2 : goal.overflow_mul-result-2
overflow_mul-result-2 c =
    let bounds : CelledBounds c.args.s = celled-bounds c.args.s c.requires.0 in
    let known : Numbers c.args.s.plain = numbers c.args.s.plain bounds.plain in
    let long : c.plain_sizes-p.result.subs ≤ 65_536 =
    rw c.plain_sizes-p.ensures known.subs-most in
    fits-mul _ _ bounds.cells-most long (lit< tt)

pub returns : goal.returns
returns c = rw c.plain_sizes-p.ensures
