use native.Mathlib.Nat.{add-sub_cancel_left}
use Rattle.lists.specs.Lists.{part}
use Rattle.lists.proofs.Parts.{length-part}
use Rattle.lists.proofs.part.Goals as goal

pub returns : goal.returns
unfolding part
returns c = record { is = rw add-sub_cancel_left; long = rw add-sub_cancel_left (length-part _ _ _ c.requires) }
