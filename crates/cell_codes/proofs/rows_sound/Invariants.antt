use Rattle.std.proofs.Common.{◌≡◌}
use Rattle.lists.specs.Tests.{every}
use Rattle.cell_codes.specs.CodesInner.{sound_at}
use Rattle.cell_codes.proofs.rows_sound.Given as goal

abbrev pub invariant-loop-i : goal.invariant-loop-i
invariant-loop-i l = l.all ≡ every (sound_at l.z l.centers) l.i
