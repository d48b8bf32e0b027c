use Rattle.std.proofs.Common.{length, sym, ap, ◌∙◌}
use Rattle.lists.proofs.Tables.{take-fresh, length-tab}
use Rattle.metrics.specs.Distance.{zero32}
use Rattle.kmeans_start.proofs.init_center.Goals as goal

pub slice_bounds-start_from-end : goal.slice_bounds-start_from-end
slice_bounds-start_from-end c =
    sym (ap length (take-fresh zero32 c.args.g.frame.w 256 c.requires.framed.wide) ∙ length-tab _ _)

pub start_from-requires : goal.start_from-requires
start_from-requires c =
    record { framed = c.requires.framed; mean_value = (take-fresh zero32 c.args.g.frame.w 256 c.requires.framed.wide, c.requires.centers_len) }
