use native.Mathlib.Omega.{arith}
use mathlib.Core.Path.{sym}
use Rattle.recorded.proofs.Laws.{word-past}
use Rattle.recorded.proofs.layout.word.Goals as goal

pub returns-else-k-s : goal.returns-else-k-s
returns-else-k-s c = sym (word-past _ _ (omega arith))
