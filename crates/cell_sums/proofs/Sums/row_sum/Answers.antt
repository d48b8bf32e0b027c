-- `row_sum`: the sum of the entries passed.
use Rattle.std.proofs.Common.{◌≡◌, refl, ◌∙◌, ap, arith}
use Rattle.metrics.specs.Distance.{sum_to}
use Rattle.cell_sums.specs.SumsInner.{term_by}
use Rattle.cell_sums.proofs.Summing.{sum-more}
use Rattle.cell_sums.proofs.Sums.row_sum.Goals as goal

pub loop-s-init : goal.loop-s-init
unfolding sum_to
loop-s-init c = refl

pub loop-s-preserved : goal.loop-s-preserved
loop-s-preserved c = rw c.entry-sum.ensures (sum-more (term_by c.args.self c.args.m) c.loop-s.s c.loop-s.sum c.loop-s.invariant)

pub returns : goal.returns
returns c =
    let e : c.loop-s.s ≡ c.args.self.nsub = omega arith in
    c.loop-s.invariant ∙ ap (sum_to (term_by c.args.self c.args.m)) e
