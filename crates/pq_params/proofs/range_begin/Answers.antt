-- `range_begin`: the closed form of a range's begin, which lies within D.
use mathlib.Core.Path.{sym}
use native.Mathlib.Omega.{arith}
use Rattle.pq_params.proofs.Bounds.{range-bounds}
use Rattle.pq_params.proofs.RangeRule.{short-some, begin-at, begin-within}
use Rattle.pq_params.proofs.range_begin.Goals as goal

pub nonzero_div-sub_dimension : goal.nonzero_div-sub_dimension
nonzero_div-sub_dimension c = omega (arith, (range-bounds c.args.d c.args.nsub c.requires.0).nsub-some)

pub overflow_mul-result : goal.overflow_mul-result
overflow_mul-result c =
    let a = c.args in
    omega (arith, begin-at a.d a.nsub a.i, begin-within a.d a.nsub c.requires.0 a.i c.requires.1)

pub nonzero_rem-d : goal.nonzero_rem-d
nonzero_rem-d c = omega (arith, short-some c.args.d c.args.nsub c.requires.0)

pub overflow_add-result : goal.overflow_add-result
overflow_add-result c =
    let a = c.args in
    let p = c.requires in
    omega (arith, begin-at a.d a.nsub a.i, begin-within a.d a.nsub p.0 a.i p.1)

pub returns : goal.returns
returns c = rw c.least.ensures (sym (begin-at _ _ _))
