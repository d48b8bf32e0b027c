-- `four_sums`: the sums of the entries passed, and of those of this sub-space.
use Rattle.std.proofs.Common.{◌≡◌, ℕ, length, refl, ◌∙◌, ap, arith}
use Rattle.lists.specs.Lists.{tab}
use Rattle.lists.proofs.Tables.{tab-none, tab-done, length-tab}
use Rattle.metrics.specs.Distance.{sum_to}
use Rattle.cell_sums.specs.SumsInner.{term_by, four_of}
use Rattle.cell_sums.proofs.Summing.{four-more}
use Rattle.cell_sums.proofs.Sums.four_sums.Goals as goal

pub loop-s-init : goal.loop-s-init
unfolding tab sum_to
loop-s-init c = refl

pub loop-k-init : goal.loop-k-init
loop-k-init c = tab-none _ _

pub loop-k-preserved : goal.loop-k-preserved
loop-k-preserved c =
    four-more (term_by c.args.self) c.args.m c.loop-s.s c.loop-k.k _ _ _ c.loop-s.invariant c.loop-k-test.true c.loop-k.invariant c.entry.ensures

pub loop-s-preserved : goal.loop-s-preserved
loop-s-preserved c =
    let l = ap length c.loop-s.invariant ∙ length-tab _ 4 in
    tab-done _ _ _ _ _ c.loop-k.invariant (omega arith) (omega arith) (omega arith)

pub returns : goal.returns
returns c =
    let e : c.loop-s.s ≡ c.args.self.nsub = omega arith in
    c.loop-s.invariant ∙ ap (λ (n : ℕ). four_of (λ (m : ℕ). sum_to (term_by c.args.self m) n) c.args.m) e
