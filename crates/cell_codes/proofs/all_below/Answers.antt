-- `all_below`: a byte is below 256; the highest is below K where all are.
use Rattle.std.proofs.Common.{ℕ, ltb, sym, ◌∙◌, ap, arith, lt-ltb}
use Rattle.lists.proofs.Tests.{every_of}
use Rattle.cell_codes.specs.CodesInner.{number_at, under}
use Rattle.cell_codes.proofs.CodesTest.{highest-below}
use Rattle.cell_codes.proofs.all_below.Goals as goal

pub returns-then-centers-eq256 : goal.returns-then-centers-eq256
returns-then-centers-eq256 c = sym (every_of (under c.args.codes.now c.args.centers) _ (λ i h. lt-ltb _ _ (omega (arith, c.type_inv.codes i, c.if-centers-eq256.true))))

pub returns : goal.returns
returns c =
    ap (λ (x : ℕ). ltb x c.args.centers) (c.wide_byte.ensures ∙ c.highest.ensures) ∙ highest-below (number_at c.args.codes.now) c.args.centers _ c.requires
