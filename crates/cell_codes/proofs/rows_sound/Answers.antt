-- `rows_sound`: every row passed is sound.
use Rattle.std.proofs.Common.{◌≡◌, ◌<◌, ◌&&◌, length, refl, ◌∙◌, ap, add-one, arith}
use mathlib.Core.Path.{ap₂}
use Rattle.lists.specs.Tests.{every}
use Rattle.lists.proofs.Joins.{within}
use Rattle.cell_codes.specs.CodesInner.{row_sound, sound_at}
use Rattle.cell_codes.proofs.rows_sound.Goals as goal

pub loop-i-init : goal.loop-i-init
unfolding every
loop-i-init c = refl

pub row_sound-all-requires : goal.row_sound-all-requires
row_sound-all-requires c =
    let z = c.args.z in
    let R = c.requires.0 in
    let m : c.row_at.result < length z.mask.now = rw c.row_at.ensures (R.numbered.inside c.loop-i.i c.loop-i-test.true) in
    (m, omega (arith, R.codes-long, within c.row_at.result (length z.mask.now) z.shape.nsub m), c.requires.1)

pub loop-i-preserved : goal.loop-i-preserved
unfolding every
loop-i-preserved c =
    let z = c.args.z in
    rw add-one (ap₂ ◌&&◌ c.loop-i.invariant (c.row_sound-all.ensures ∙ ap (row_sound z.mask.now z.codes.now z.shape.nsub c.args.centers) c.row_at.ensures))

pub returns : goal.returns
returns c =
    let e : c.loop-i.i ≡ c.args.z.n = omega arith in
    c.loop-i.invariant ∙ ap (every (sound_at c.args.z c.args.centers)) e
