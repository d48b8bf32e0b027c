-- `range_width`: the first e ranges are s+1 long, the others s.
use mathlib.Core.Path.{sym}
use native.Mathlib.Omega.{arith}
use Rattle.pq_params.proofs.Bounds.{range-bounds}
use Rattle.pq_params.proofs.RangeRule.{short-some, width-long, width-short, width-most}
use Rattle.pq_params.proofs.range_width.Goals as goal

pub nonzero_div-sub_dimension : goal.nonzero_div-sub_dimension
nonzero_div-sub_dimension c = omega (arith, (range-bounds c.args.d c.args.nsub c.requires).nsub-some)

pub nonzero_rem-d : goal.nonzero_rem-d
nonzero_rem-d c = omega (arith, short-some c.args.d c.args.nsub c.requires)

pub overflow_add-result : goal.overflow_add-result
overflow_add-result c =
    let a = c.args in
    omega (arith, width-long a.d a.nsub a.i c.if-i-d.true, width-most a.d a.nsub c.requires a.i)

pub returns-then-i-d : goal.returns-then-i-d
returns-then-i-d c = sym (width-long _ _ _ c.if-i-d.true)

pub returns-else-i-d : goal.returns-else-i-d
returns-else-i-d c = sym (width-short _ _ _ c.if-i-d.false)
