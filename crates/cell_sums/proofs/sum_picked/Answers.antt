-- `sum_picked`: the sums are stored, and whether all are finite is their worked distance.
use Rattle.std.proofs.Common.{refl, sym}
use Rattle.cell_sums.proofs.Summing.{all-summed as summed, marked-all, unmarked-all}
use Rattle.cell_sums.proofs.sum_picked.Goals as goal

pub returns-in_default : goal.returns-in_default
returns-in_default c = record {
  answer = rw (sym (summed _ _ _ _ _ c.store_sums.ensures refl (sym (marked-all _ c.in_default.ensures))));
  sums-are = c.store_sums.ensures;
}

pub returns : goal.returns
returns c = record {
  answer = rw (sym (summed _ _ _ _ _ c.store_sums.ensures refl (sym (unmarked-all _ _ c.in-Some.ensures))));
  sums-are = c.store_sums.ensures;
}
