-- `search`: the tests, and then the work, whose outcome is the definition's.
use Rattle.std.proofs.Common.{◌∙◌}
use Rattle.std.proofs.lemmas.Result.{err_from_is_err_and}
use Rattle.cell_walk.specs.Results.{lent}
use Rattle.plain_search.proofs.Tested.{ready, out-refused, out-worked}
use Rattle.plain_search.proofs.search.Goals as goal

pub returns-in_err-search_refusal : goal.returns-in_err-search_refusal
returns-in_err-search_refusal c =
    let a = c.args in
    let p = err_from_is_err_and c.from_residual.result c.from_residual.ensures.1 in
    rw (p.1, p.2)
    (out-refused a.s a.n a.query a.mask a.subs a.codes (lent a.rows.now a.sums.now a.table.now)
    _ (c.search_refusal.ensures ∙ rw (c.bad_plain-bad.ensures, c.plain_lengths-l.ensures)) _ c.in_err-search_refusal.was)

pub search_ready-requires : goal.search_ready-requires
search_ready-requires c =
    let a = c.args in
    ready a.s a.n a.query a.mask a.subs a.codes (lent a.rows.now a.sums.now a.table.now)
    _ (c.search_refusal.ensures ∙ rw (c.bad_plain-bad.ensures, c.plain_lengths-l.ensures)) c.in_ok-search_refusal.was

pub returns : goal.returns
returns c =
    let a = c.args in
    c.search_ready.ensures
    ∙ out-worked a.s a.n a.query a.mask a.subs a.codes (lent a.rows.now a.sums.now a.table.now)
    _ (c.search_refusal.ensures ∙ rw (c.bad_plain-bad.ensures, c.plain_lengths-l.ensures)) c.in_ok-search_refusal.was
