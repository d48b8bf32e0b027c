use Rattle.std.proofs.Common.{◌∙◌, arith, lt_of_lt_of_le, option_copied}
use Rattle.pq_params.specs.Bounds.{centers_of}
use Rattle.pq_params.proofs.Numbers.{numbers}
use Rattle.kmeans_assign.proofs.Choosing.{nearest-lt}
use Rattle.pq_train.proofs.Laws.{range_inside, residual-long, residual-holds, code-stretch, code-chosen}
use Rattle.pq_train.proofs.code_of.Goals as goal

pub part-values-requires : goal.part-values-requires
part-values-requires c =
    rw c.frame-f.ensures (omega (arith, range_inside c.requires.0 c.args.s c.requires.1, c.requires.0.row-long))

pub part_if-residual-requires : goal.part_if-residual-requires
part_if-residual-requires c =
    rw c.frame-f.ensures (residual-holds c.args.l.center _ _ _ (range_inside c.requires.0 c.args.s c.requires.1) c.requires.0.center-long)

pub overflow_mul-f : goal.overflow_mul-f
overflow_mul-f c =
    rw c.frame-f.ensures (record { fits = omega (arith, code-stretch c.requires.0 c.args.s c.requires.1) })

pub overflow_mul-f-2 : goal.overflow_mul-f-2
overflow_mul-f-2 c =
    rw c.frame-f.ensures (record { fits = omega (arith, code-stretch c.requires.0 c.args.s c.requires.1) })

pub part-centers-requires : goal.part-centers-requires
part-centers-requires c =
    rw c.frame-f.ensures (omega (arith, code-stretch c.requires.0 c.args.s c.requires.1))

pub nearest-requires-clause-residual_len : goal.nearest-requires-clause-residual_len
nearest-requires-clause-residual_len c =
    let e = c.frame-f.ensures in
    residual-long c.part_if-residual.result (option_copied c.args.l.center) _ _ _ _ (rw e at c.part_if-residual.ensures.is) (range_inside c.requires.0 c.args.s c.requires.1) c.requires.0.center-long
    (rw e at c.part-values.ensures.long)

pub overflow_cast-result : goal.overflow_cast-result
overflow_cast-result c =
    let z = c.args.l.shape in
    let k = numbers z c.requires.0.good in
    record { fits = rw (c.nearest.ensures, c.frame-f.ensures) (lt_of_lt_of_le (nearest-lt _ (centers_of z.bits) k.centers-some) k.centers-most) }

pub returns : goal.returns
returns c =
    let a = c.args in
    let e = c.frame-f.ensures in
    c.nearest.ensures ∙ rw e (code-chosen a.l.shape a.x.now (option_copied a.l.center) a.subs.now _ _ _ a.s (rw e at c.part-values.ensures) (rw e at c.part_if-residual.ensures.is) (rw e at c.part-centers.ensures))
