use Rattle.std.proofs.Common.{◌≡◌, ℕ, ◌+◌, ◌++◌, get_or, drop}
use Rattle.lists.specs.Lists.{tab}
use Rattle.metrics.specs.Distance.{sum_to}
use Rattle.cell_sums.specs.SumsInner.{term_by, four_of}
use Rattle.cell_sums.proofs.Sums.four_sums.Given as goal

abbrev pub invariant-loop-s : goal.invariant-loop-s
invariant-loop-s l = l.sums ≡ four_of (λ (m : ℕ). sum_to (term_by l.self m) l.s) l.m

abbrev pub invariant-loop-k : goal.invariant-loop-k
invariant-loop-k l = l.sum-items ≡ tab (λ (i : ℕ). sum_to (term_by l.self (get_or l.m i 0)) (l.s + 1)) l.k ++ drop l.k l.initial.sum-items
