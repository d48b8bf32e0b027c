-- `any_draw_out`: every draw passed is in range.
use borrow.Author.Rules.{rules}
use Rattle.pq_params.specs.Refusals.{any_draw_out}
use Rattle.lists.proofs.Tests.{every_of, every-false}
use borrow.Author.Count.{below_more}
use mathlib.Core.Bool.{not}
use mathlib.Core.Path.{sym, ap}
use native.Mathlib.Omega.{arith}
use Rattle.pq_params.proofs.any_draw_out.Goals as goal

pub loop-d-init : goal.loop-d-init
loop-d-init c = (search rules, λ i h. absurd (omega arith))

pub returns-then-not-d : goal.returns-then-not-d
unfolding any_draw_out
returns-then-not-d c = sym (ap not (every-false _ _ c.loop-d.d-index (search rules) c.if-not-d.true))

pub loop-d-preserved : goal.loop-d-preserved
loop-d-preserved c = (search rules, below_more _ _ c.loop-d.invariant.1 c.if-not-d.false)

pub returns : goal.returns
unfolding any_draw_out
returns c = sym (ap not (every_of _ _ (λ i h. c.loop-d.invariant.1 i (omega arith))))
