use Rattle.std.proofs.Common.{◌*◌, ◌<◌, arith, option_copied}
use Rattle.pq_params.specs.Bounds.{centers_of}
use Rattle.pq_params.specs.Ranges.{begin_of}
use Rattle.pq_train.proofs.Laws.{stretch-within, begin-fits, inside, residual-holds, frame-held, ran-sub}
use Rattle.pq_train.proofs.train_sub.Goals as goal

pub part_if-requires : goal.part_if-requires
part_if-requires c =
    let h = c.requires.listing in
    rw c.frame-f.ensures (residual-holds c.args.l.center _ _ _ (inside h c.args.s c.requires.lent.1) h.center-long)

pub overflow_mul-f : goal.overflow_mul-f
overflow_mul-f c =
    let z = c.args.l.shape in
    let g : centers_of z.bits * begin_of z.d z.nsub c.args.s < 18446744073709551616 = omega (arith, begin-fits c.requires.listing c.args.s c.requires.lent.1) in
    record { fits = rw c.frame-f.ensures g }

pub train_at-requires-clause-framed_in : goal.train_at-requires-clause-framed_in
train_at-requires-clause-framed_in c =
    let e = c.frame-f.ensures in
    rw e (frame-held c.requires.listing c.args.s c.requires.lent.1 c.part_if.result (rw e at c.part_if.ensures.is))

pub train_at-requires-clause-w_in_bounds : goal.train_at-requires-clause-w_in_bounds
train_at-requires-clause-w_in_bounds c =
    let z = c.args.l.shape in
    let o = c.requires.lent.0 in
    rw c.frame-f.ensures (omega (arith, stretch-within z.d z.nsub (centers_of z.bits) c.args.s c.requires.lent.1, o.subs-long), o.assigned-long, c.requires.listing.few-epochs, o.drawn)

pub returns : goal.returns
returns c =
    let e = c.frame-f.ensures in
    ran-sub c.requires.listing c.args.s c.requires.lent.1 (option_copied c.part_if.result) (rw e at c.part_if.ensures.is) (rw e at c.train_at.ensures)
