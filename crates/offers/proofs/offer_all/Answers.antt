-- `offer_all`: nothing to do, or all are offered.
use Prim.Native.Nat.{◌-◌}
use mathlib.Core.Path.{sym, ◌∙◌}
use native.Mathlib.Omega.{arith}
use Rattle.neighbor.specs.Gathered.{batch_of, runs}
use Rattle.offers.proofs.Offers.{skipped}
use Rattle.offers.proofs.offer_all.Goals as goal

pub returns-then-all_behind : goal.returns-then-all_behind
returns-then-all_behind c =
    let a = c.args in
    skipped (runs a.rows.now a.sums.now a.found (batch_of a.batch.now a.waiting)) (a.found - 1) (omega arith) c.if-found-rows.true a.picked.now
    (rw c.candidate_at-least.ensures at (sym c.all_behind.ensures ∙ c.if-all_behind.true))
