use borrow.Author.Rules.{rules}
use Prim.Native.Nat.{ℕ, ◌+◌}
use mathlib.Core.Path.{◌≡◌, sym, ◌∙◌, ap}
use native.Mathlib.Omega.{arith}
use lib.ListN.{length}
use Rattle.std.specs.Prelude.{Option, option_copied}
use lib.Ieee.{Float}
use Rattle.lists.proofs.Joins.{within}
use Rattle.metrics.specs.Distance.{value_in}
use Rattle.kmeans_assign.specs.Assign.{distance_to, nearest}
use Rattle.kmeans_assign.proofs.Choosing.{nearest-one, nearest-took, nearest-kept}
use Rattle.kmeans_assign.proofs.nearest.Goals as goal
use Rattle.kmeans_assign.proofs.nearest.Goals.{then-less, else-less}

pub distance_to-least-requires-clause-centers_len : goal.distance_to-least-requires-clause-centers_len
distance_to-least-requires-clause-centers_len c =
    let a = c.args in
    omega (arith, within 0 a.n (length a.x.now) (search rules))

pub loop-i-init : goal.loop-i-init
loop-i-init c = (search rules, search rules, sym (nearest-one _), search rules)

pub distance_to-rival-requires-clause-centers_len : goal.distance_to-rival-requires-clause-centers_len
distance_to-rival-requires-clause-centers_len c =
    let a = c.args in
    omega (arith, within c.loop-i.i a.n (length a.x.now) c.loop-i-test.true)

pub loop-i-preserved : goal.loop-i-preserved
loop-i-preserved c =
    let s = c.loop-i in
    let a = c.args in
    let d : ℕ → Option Float = distance_to (value_in (option_copied a.residual) a.x.now) a.centers.now (length a.x.now) in
    let rival = c.distance_to-rival.result in
    let r : rival ≡ d s.i = c.distance_to-rival.ensures in
    let next : (c.if-less.best ≡ nearest d (s.i + 1)) × (c.if-less.least ≡ d c.if-less.best) =
    elim c.if-less.branch [
      | then-less w ↦
          (w.best-is ∙ nearest-took d s.i s.best s.least rival s.invariant.2 s.invariant.3 r (sym c.less.ensures ∙ w.if-less.true), w.least-is ∙ r ∙ ap d (sym w.best-is))
      | else-less w ↦
          (w.best-is ∙ nearest-kept d s.i s.best s.least rival s.invariant.2 s.invariant.3 r (sym c.less.ensures ∙ w.if-less.false), w.least-is ∙ s.invariant.3 ∙ ap d (sym w.best-is))
    ] in
    (search rules, search rules, next.0, next.1)

pub returns : goal.returns
returns c =
    let a = c.args in
    let e : c.loop-i.i ≡ a.n = omega (arith, c.loop-i-test.false, c.loop-i.invariant.1) in
    rw e at c.loop-i.invariant.2
