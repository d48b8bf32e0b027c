-- `train_cell_at`: the cell's stretch is cut out of all sub-centres and put back.
use native.Mathlib.Nat.{add-sub_cancel_left}
use Rattle.lists.specs.Lists.{put_part}
use Rattle.celled_cells.proofs.train_cell_at.Goals as goal

pub returns : goal.returns
unfolding put_part
returns c =
    let v = c.train_cell.ensures in
    record { said = v.said; placed = λ u f. rw (add-sub_cancel_left, v.made u f) }
