use Rattle.std.proofs.Common.{◌≡◌, ℕ}
use Rattle.std.specs.Float.Ieee.Scale.{finite}
use Rattle.lists.specs.Tests.{every}
use Rattle.neighbor.specs.Held.{candidate_at}
use Rattle.cell_sums.proofs.mark_all.Given as goal

abbrev pub invariant-loop-c : goal.invariant-loop-c
invariant-loop-c l = l.all ≡ every (λ (i : ℕ). finite (candidate_at l.picked i).sum) l.c-index
