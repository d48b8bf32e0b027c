use Prim.Native.Nat.{◌*◌}
use mathlib.Core.Path.{◌≡◌}
use mathlib.Core.List.{◌++◌}
use lib.ListN.{drop}
use Rattle.std.specs.Prelude.{Ok}
use Rattle.lists.specs.Lists.{join}
use Rattle.celled_cells.specs.Training.{reached_cell, cell_centers}
use Rattle.celled_cells.specs.CellsInner.{given_by}
use Rattle.celled_cells.proofs.train_cells.Given as goal

abbrev pub invariant-loop-c : goal.invariant-loop-c
invariant-loop-c l = record {
  reached : reached_cell (given_by l.l) l.c ≡ Ok l.used;
  made : l.subs ≡ join (cell_centers (given_by l.l)) l.c ++ drop (l.c * l.long) l.initial.subs;
}
