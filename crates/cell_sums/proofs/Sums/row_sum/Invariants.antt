use Rattle.std.proofs.Common.{◌≡◌}
use Rattle.metrics.specs.Distance.{sum_to}
use Rattle.cell_sums.specs.SumsInner.{term_by}
use Rattle.cell_sums.proofs.Sums.row_sum.Given as goal

abbrev pub invariant-loop-s : goal.invariant-loop-s
invariant-loop-s l = l.sum ≡ sum_to (term_by l.self l.m) l.s
