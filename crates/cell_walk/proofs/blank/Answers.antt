-- `blank`: both runs are filled.
use Rattle.std.proofs.Common.{◌∙◌, ap}
use Rattle.lists.specs.Lists.{fill}
use Rattle.metrics.specs.Distance.{zero32}
use Rattle.cell_walk.proofs.Walks.{blank-rows, blank-sums}
use Rattle.cell_walk.proofs.blank.Goals as goal

pub returns : goal.returns
returns c = record { rows-blank = c.fill.ensures ∙ blank-rows _; sums-blank = c.fill-2.ensures ∙ ap (fill zero32) c.requires ∙ blank-sums _ }
