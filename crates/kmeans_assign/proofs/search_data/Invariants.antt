use Rattle.std.proofs.Common.{◌≡◌, ◌++◌, drop}
use Rattle.lists.specs.Lists.{tab}
use Rattle.kmeans_assign.specs.Assign.{chosen_at}
use Rattle.kmeans_assign.specs.Task.{row_given}
use Rattle.kmeans_assign.proofs.search_data.Given as goal

abbrev pub invariant-loop-k : goal.invariant-loop-k
invariant-loop-k l = l.assigned ≡ tab (chosen_at (row_given l.g) l.centers) l.k ++ drop l.k l.initial.assigned
