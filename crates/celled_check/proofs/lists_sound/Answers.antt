-- `lists_sound`: the list of every cell passed is sound.
use native.Mathlib.Omega.{arith}
use native.Mathlib.Numerals.{add-one}
use Rattle.lists.proofs.Walks.{every-none, every_more, every-done}
use Rattle.celled_lists.specs.Index.{Index, index_in}
use Rattle.celled_check.specs.Check.{cell_sound}
use Rattle.celled_check.proofs.lists_sound.Goals as goal

pub loop-c-init : goal.loop-c-init
loop-c-init c = every-none _

pub loop-c-preserved : goal.loop-c-preserved
loop-c-preserved c =
    let i : Index = index_in c.args.x.now in
    rw (c.list_sound-sound.ensures, c.list.ensures.is, add-one) (every_more (cell_sound i.starts i.members i.n) c.loop-c.c _ c.loop-c.invariant)

pub returns : goal.returns
returns c = every-done _ _ _ _ c.loop-c.invariant (omega arith)
