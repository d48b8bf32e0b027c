use mathlib.Core.Path.{◌≡◌}
use lib.ListN.{take}
use Rattle.std.specs.List.{list_all}
use Rattle.offers.specs.OffersInner.{behind}
use Rattle.offers.proofs.all_behind.Given as goal

abbrev pub invariant-loop-c : goal.invariant-loop-c
invariant-loop-c l = l.all ≡ list_all (behind l.least) (take l.c-index l.picked)
