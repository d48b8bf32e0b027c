-- `entry`: the code is below K, so the entry lies within the table.
use Rattle.std.proofs.Common.{arith}
use Rattle.cell_sums.proofs.Summing.{inside}
use Rattle.cell_sums.proofs.Sums.entry.Goals as goal

pub bounds-self-s : goal.bounds-self-s
bounds-self-s c = let h = inside _ _ _ _ _ _ c.requires.0 c.requires.1 in omega (arith, c.wide_byte-code.ensures)
