use Rattle.std.proofs.Common.{◌≡◌, ℕ, ◌<◌, ◌*◌, ◌++◌, true, length, drop}
use Rattle.lists.specs.Lists.{grid}
use Rattle.cell_table.specs.Tables.{finite_row, query_of}
use Rattle.cell_table.specs.TablesInner.{stretch_entry}
use Rattle.cell_table.proofs.fill_subs.Given as goal

abbrev pub invariant-loop-s : goal.invariant-loop-s
invariant-loop-s l = record {
  long : length l.table ≡ length l.initial.table;
  finite : (k : ℕ) → k < l.s → finite_row (stretch_entry l.z.shape l.centers (query_of l.z) l.own) l.centers k ≡ true;
  stored : l.table ≡ grid (stretch_entry l.z.shape l.centers (query_of l.z) l.own) l.s l.centers ++ drop (l.s * l.centers) l.initial.table;
}
