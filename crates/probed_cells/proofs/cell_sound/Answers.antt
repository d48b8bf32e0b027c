-- `cell_sound`: a list that is sound has rows whose codes can be read, and then they decide.
use Rattle.std.proofs.Common.{sym, ◌∙◌}
use Rattle.std.specs.Prelude.{None}
use Rattle.probed_cells.proofs.ProbedLists.{list-rows, codes-decide}
use Rattle.probed_cells.proofs.cell_sound.Goals as goal

pub codes_sound-requires : goal.codes_sound-requires
codes_sound-requires c =
    let l = c.requires.0 in
    rw c.cell.ensures (l.plain, list-rows c.args.a l c.args.c c.requires.1 c.list-list.result c.list-list.ensures.is None (sym c.list_sound.ensures ∙ c.if-list_sound.true))

pub returns-then-list_sound : goal.returns-then-list_sound
returns-then-list_sound c =
    c.codes_sound.ensures
    ∙ rw c.cell.ensures (codes-decide c.args.a c.requires.0 c.args.c c.requires.1 c.list-list.result c.list-list.ensures.is None (sym c.list_sound.ensures ∙ c.if-list_sound.true))
