-- `row_sound`: hidden, or its codes are below K.
use Rattle.std.proofs.Common.{Bool, not, ◌||◌, ◌∙◌}
use mathlib.Core.Path.{ap₂}
use Rattle.cell_codes.specs.Codes.{visible}
use Rattle.cell_codes.specs.CodesInner.{codes_under}
use Rattle.cell_codes.proofs.CodesTest.{sound-or}
use Rattle.cell_codes.proofs.row_sound.Goals as goal

pub returns : goal.returns
returns c =
    let z = c.args.z in
    ap₂ (λ (v b : Bool). not v || b) c.is_visible-shown.ensures c.codes_below-below.ensures ∙ sound-or (visible z.mask.now c.args.m) (codes_under z.codes.now z.shape.nsub c.args.centers c.args.m)
