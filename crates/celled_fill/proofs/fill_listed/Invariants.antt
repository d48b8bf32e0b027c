use mathlib.Core.Path.{◌≡◌}
use Rattle.celled_fill.specs.FillInner.{coded_to, code_listed}
use Rattle.celled_fill.proofs.fill_listed.Given as goal

abbrev pub invariant-loop-m : goal.invariant-loop-m
invariant-loop-m l = l.codes ≡ coded_to (code_listed l.l l.subs) l.l.shape.nsub l.list l.m-index l.initial.codes
