-- `train_coarse`: the frame of the coarse centres gives document 01's coarse k-means.
use mathlib.Core.Path.{◌∙◌, ap}
use Rattle.kmeans_split.specs.Run.{Run}
use Rattle.kmeans.specs.Kmeans.{train}
use Rattle.celled_cells.specs.CellsInner.{given_by}
use Rattle.celled_train.proofs.Coarse.{coarse-task}
use Rattle.celled_train.proofs.train_coarse.Goals as goal

pub returns : goal.returns
returns c =
    let e = rw c.coarse_frame.ensures at c.train.ensures.run ∙ ap (λ t. train t 0) (coarse-task (given_by c.args.l.now)) in
    record { said = ap (λ (q : Run). q.answer) e; made = ap (λ (q : Run). q.centers) e }
