use mathlib.Core.Path.{◌≡◌}
use Rattle.lists.specs.Tests.{every}
use Rattle.celled_lists.specs.Index.{Index, index_in}
use Rattle.celled_check.specs.Check.{cell_sound}
use Rattle.celled_check.proofs.lists_sound.Given as goal

abbrev pub invariant-loop-c : goal.invariant-loop-c
invariant-loop-c l =
    let i : Index = index_in l.x in
    l.sound ≡ every (cell_sound i.starts i.members i.n) l.c
