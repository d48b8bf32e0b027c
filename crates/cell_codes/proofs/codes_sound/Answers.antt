-- `codes_sound`: all codes are below K, or row by row.
use Rattle.std.proofs.Common.{sym, ◌∙◌}
use Rattle.pq_params.proofs.Numbers.{numbers}
use Rattle.cell_codes.proofs.CodesTest.{all_sound, sound-rows}
use Rattle.cell_codes.proofs.codes_sound.Goals as goal

pub centers-centers-requires : goal.centers-centers-requires
centers-centers-requires c = (numbers c.args.z.shape c.requires.0).bits_most

pub rows_sound-requires : goal.rows_sound-requires
rows_sound-requires c = (c.requires.1, rw c.centers-centers.ensures (numbers c.args.z.shape c.requires.0).centers-some)

pub all_below-requires : goal.all_below-requires
all_below-requires c = rw c.centers-centers.ensures (numbers c.args.z.shape c.requires.0).centers-some

pub returns-then-all_below : goal.returns-then-all_below
returns-then-all_below c =
    sym (all_sound c.args.z c.requires.1 _ (sym c.all_below.ensures ∙ c.if-all_below.true)) ∙ sound-rows c.args.z _ c.centers-centers.ensures

pub returns : goal.returns
returns c = c.rows_sound.ensures ∙ sound-rows c.args.z _ c.centers-centers.ensures
