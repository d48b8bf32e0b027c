use mathlib.Core.Path.{◌≡◌, refl}
use native.Mathlib.Omega.{arith}
use native.Mathlib.Numerals.{add-one}
use borrow.Author.Rules.{rules}
use lib.ListN.{length}
use Rattle.metrics.specs.Distance.{sum_to, squared, value_of}
use Rattle.metrics.proofs.squares_less.Goals as goal

pub loop-j-init : goal.loop-j-init
unfolding sum_to
loop-j-init c = (omega arith, refl)

pub loop-j-preserved : goal.loop-j-preserved
unfolding sum_to value_of
loop-j-preserved c = (search rules, rw add-one (cc))

pub returns : goal.returns
unfolding squared
returns c =
    let e : c.loop-j.j ≡ length c.args.center.now = omega arith in
    cc
