use Rattle.std.proofs.Common.{◌≡◌}
use Rattle.cell_codes.specs.CodesInner.{number_at, highest_of}
use Rattle.cell_codes.proofs.highest.Given as goal

abbrev pub invariant-loop-code : goal.invariant-loop-code
invariant-loop-code l = l.most ≡ highest_of (number_at l.codes) l.code-index
