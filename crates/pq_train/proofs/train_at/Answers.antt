use Rattle.std.proofs.Common.{length, sym, ap, ◌∙◌}
use native.Mathlib.Nat.{add-sub_cancel_left}
use Rattle.lists.specs.Lists.{put_part}
use Rattle.pq_train.proofs.train_at.Goals as goal

pub returns : goal.returns
unfolding put_part
returns c =
    let v = c.train_stretch.ensures in
    record { said = v.said; placed = rw (add-sub_cancel_left, v.made); long = sym (ap length v.made) ∙ v.long; chosen = v.chosen }
