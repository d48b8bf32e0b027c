use mathlib.Core.Path.{◌≡◌}
use lib.ListN.{length}
use Rattle.celled_lists.specs.Cells.{cell_start}
use Rattle.celled_fill.specs.Fill.{cell_at, filled_code}
use Rattle.celled_fill.specs.FillInner.{coded_to}
use Rattle.celled_fill.proofs.fill_codes.Given as goal

abbrev pub invariant-loop-c : goal.invariant-loop-c
invariant-loop-c l =
    let coarse = l.x.coarse.now in
    let members = l.x.members.now in
    l.codes ≡ coded_to (filled_code l.s coarse l.subs l.rows) l.s.plain.nsub members (cell_start (cell_at l.s coarse l.rows) (length members) l.c) l.initial.codes
