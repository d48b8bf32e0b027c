-- `check_ready`: the three walks give the answer, and work is zero whatever they find.
use mathlib.Core.Path.{sym, ◌∙◌}
use Rattle.celled_lists.specs.Index.{index_in}
use Rattle.celled_check.proofs.CheckInner.{all_sound}
use Rattle.celled_check.proofs.check_ready.Goals as goal

pub returns-then-in_order-once : goal.returns-then-in_order-once
returns-then-in_order-once c =
    let sound = all_sound (index_in c.args.x.now) _ _ _ c.cells_sound-in_order.ensures c.rows_once-once.ensures.once (rw c.centers-centers.ensures at c.codes_below-below.ensures) c.requires.codes-long in
    rw (c.rows_once-once.ensures.cleared, sym sound ∙ c.if-in_order-once.true)

pub returns-else-in_order-once : goal.returns-else-in_order-once
returns-else-in_order-once c =
    let sound = all_sound (index_in c.args.x.now) _ _ _ c.cells_sound-in_order.ensures c.rows_once-once.ensures.once (rw c.centers-centers.ensures at c.codes_below-below.ensures) c.requires.codes-long in
    rw (c.rows_once-once.ensures.cleared, sym sound ∙ c.if-in_order-once.false)
