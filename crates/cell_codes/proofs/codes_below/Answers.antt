-- `codes_below`: the highest code of the row is below K where all are.
use Rattle.std.proofs.Common.{ℕ, ◌+◌, ◌*◌, ◌-◌, ltb, ◌∙◌, ap, arith}
use Rattle.cell_codes.proofs.CodesTest.{part-under}
use Rattle.cell_codes.proofs.codes_below.Goals as goal

pub returns : goal.returns
returns c =
    let a = c.args in
    ap (λ (x : ℕ). ltb x a.centers) (c.wide_byte.ensures ∙ c.highest.ensures) ∙ part-under a.codes.now a.nsub a.centers a.m ((a.m * a.nsub + a.nsub) - a.m * a.nsub) (omega arith) c.requires.0 c.requires.1
