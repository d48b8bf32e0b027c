use Rattle.probed_cells.specs.Search.{asking_in}
use Rattle.probed_cells.proofs.ProbedWalk.{Reached}
use lib.ListN.{length}
use Rattle.probed_cells.proofs.search_probed.Given as goal

abbrev pub invariant-loop-c : goal.invariant-loop-c
invariant-loop-c l = Reached (asking_in l.a) (length l.initial.rows) l.c-index l.rows l.sums l.found l.scored
