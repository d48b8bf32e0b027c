-- `highest`: the highest of the codes passed.
use Rattle.std.proofs.Common.{◌≡◌, ℕ, max, length, refl, ◌∙◌, ap, add-one, arith}
use Rattle.cell_codes.specs.CodesInner.{number_at, highest_of}
use Rattle.cell_codes.proofs.highest.Goals as goal

pub loop-code-init : goal.loop-code-init
unfolding highest_of
loop-code-init c = refl

pub loop-code-preserved : goal.loop-code-preserved
unfolding highest_of
loop-code-preserved c = rw add-one (c.max-most.ensures ∙ ap (λ (n : ℕ). max n (number_at c.args.codes.now c.loop-code.code-index)) c.loop-code.invariant)

pub returns : goal.returns
returns c =
    let e : c.loop-code.code-index ≡ length c.args.codes.now = omega arith in
    c.loop-code.invariant ∙ ap (highest_of (number_at c.args.codes.now)) e
