-- `offer_each`: those passed are offered.
use borrow.Author.Rules.{rules}
use mathlib.Core.Path.{refl}
use lib.Seq.{take_all}
use Rattle.offers.proofs.Offers.{each_none, each_more, each-gathered}
use Rattle.offers.proofs.offer_each.Goals as goal

pub loop-c-init : goal.loop-c-init
loop-c-init c = record { rows_long = refl; sums_long = refl; offered = each_none _ c.args.picked.now }

pub offer-counts-requires : goal.offer-counts-requires
offer-counts-requires c = (
  each-gathered _ _ c.args.picked.now c.loop-c.c-index c.requires.gathered c.requires.finite c.loop-c.invariant.offered,
  c.requires.finite c.loop-c.c-index c.loop-c-test.true,
)

pub loop-c-preserved : goal.loop-c-preserved
loop-c-preserved c = record {
  rows_long = search rules;
  sums_long = search rules;
  offered = each_more _ _ _ c.args.picked.now c.loop-c.c-index c.loop-c-test.true c.loop-c.invariant.offered c.offer-counts.ensures;
}

pub returns : goal.returns
returns c = rw (take_all c.loop-c.c-index c.args.picked.now c.loop-c-test.false) at c.loop-c.invariant.offered
