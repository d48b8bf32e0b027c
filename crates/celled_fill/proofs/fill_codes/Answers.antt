-- `fill_codes`: the rows of the cells passed have their codes.
use mathlib.Core.Path.{◌≡◌, ◌∙◌}
use native.Mathlib.Omega.{arith}
use Rattle.celled_fill.proofs.CellSlices.{cells-none, cells-more, cells-all}
use Rattle.celled_fill.proofs.fill_codes.Goals as goal

pub loop-c-init : goal.loop-c-init
loop-c-init c = cells-none c.requires

pub loop-c-preserved : goal.loop-c-preserved
loop-c-preserved c = rw c.loop-c.invariant at c.fill_cell.ensures ∙ cells-more c.requires c.loop-c.c c.loop-c-test.true

pub returns : goal.returns
returns c =
    let i = c.loop-c in
    let e : i.c ≡ c.args.s.cells = omega (arith, c.loop-c-test.false) in
    rw e at i.invariant ∙ cells-all c.requires
