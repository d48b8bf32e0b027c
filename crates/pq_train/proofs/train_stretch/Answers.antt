use Rattle.std.proofs.Common.{length, sym, ap, ◌∙◌, rules}
use Rattle.lists.proofs.Tables.{take-fresh, length-tab}
use Rattle.kmeans_split.specs.Run.{Run}
use Rattle.pq_train.proofs.train_stretch.Goals as goal

pub slice_bounds-train-end : goal.slice_bounds-train-end
slice_bounds-train-end c =
    sym (ap length (take-fresh 0 c.args.g.frame.centers 256 c.requires.framed_in.centers-le) ∙ length-tab _ _)

pub train-requires-clause-trainable : goal.train-requires-clause-trainable
train-requires-clause-trainable c =
    let k = c.args.g.frame.centers in
    let p = c.requires.centers_len in
    record {
      centers-long = p.0;
      assigned-long = p.1;
      counts-long = ap length (take-fresh 0 k 256 c.requires.framed_in.centers-le) ∙ length-tab (λ i. 0) k;
      in-range = c.requires.not_negative;
      drawn = p.3;
    }

pub returns : goal.returns
returns c =
    let e = c.train.ensures.run in
    record { said = ap (λ (r : Run). r.answer) e; made = ap (λ (r : Run). r.centers) e; long = search rules; chosen = ap (λ (r : Run). r.assigned) e }
