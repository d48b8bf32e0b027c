use Rattle.std.proofs.Common.{◌≡◌, ℕ, ◌<◌, ◌++◌, true, length, drop}
use Rattle.std.specs.Prelude.{option_copied}
use Rattle.lists.specs.Lists.{tab}
use Rattle.cell_table.specs.TablesInner.{finite_at, distance_at}
use Rattle.cell_table.proofs.fill_range.Given as goal

abbrev pub invariant-loop-q : goal.invariant-loop-q
invariant-loop-q l = record {
  finite : (k : ℕ) → k < l.q → finite_at (distance_at l.x (option_copied l.residual) l.centers (length l.x)) k ≡ true;
  stored : l.out ≡ tab (distance_at l.x (option_copied l.residual) l.centers (length l.x)) l.q ++ drop l.q l.initial.out;
}
