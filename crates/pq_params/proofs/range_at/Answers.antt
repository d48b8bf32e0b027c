-- `range_at`: a used place holds its range's begin and end, and any other 0, 0.
use Prim.Native.Nat.{suc}
use mathlib.Core.Path.{sym}
use native.Mathlib.Nat.{le_of_lt}
use native.Mathlib.Omega.{arith}
use Rattle.pq_params.proofs.Bounds.{range-bounds}
use Rattle.pq_params.proofs.RangeRule.{Used, used-of, pair-used, pair-unused, begin-next, begin-within}
use Rattle.pq_params.proofs.range_at.Goals as goal

pub range_begin-begin-requires : goal.range_begin-begin-requires
range_begin-begin-requires c =
    let used : Used c.args.d c.args.nsub c.args.i = used-of _ _ _ (rw c.ranges_used.ensures at c.if-i-ranges_used.true) in
    (used.good, le_of_lt used.below)

pub range_width-requires : goal.range_width-requires
range_width-requires c =
    let used : Used c.args.d c.args.nsub c.args.i = used-of _ _ _ (rw c.ranges_used.ensures at c.if-i-ranges_used.true) in
    used.good

pub overflow_add-end : goal.overflow_add-end
overflow_add-end c =
    let used : Used c.args.d c.args.nsub c.args.i = used-of _ _ _ (rw c.ranges_used.ensures at c.if-i-ranges_used.true) in
    let a = c.args in
    let u = used in
    let n = begin-next a.d a.nsub a.i in
    let w = begin-within a.d a.nsub u.good (suc a.i) u.below in
    omega (arith, (range-bounds a.d a.nsub u.good).d-most)

pub returns-then-i-ranges_used : goal.returns-then-i-ranges_used
returns-then-i-ranges_used c =
    let used : Used c.args.d c.args.nsub c.args.i = used-of _ _ _ (rw c.ranges_used.ensures at c.if-i-ranges_used.true) in
    rw (c.range_begin-begin.ensures, c.range_width.ensures, ← begin-next) (sym (pair-used _ _ _ used))

pub returns : goal.returns
returns c =
    let a = c.args in
    sym (pair-unused a.d a.nsub a.i (rw c.ranges_used.ensures at c.if-i-ranges_used.false))
