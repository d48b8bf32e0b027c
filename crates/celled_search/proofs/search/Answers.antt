-- `search`: the work begins where none of the tests refuses.
use Rattle.std.proofs.Common.{sym, ◌∙◌}
use Rattle.std.proofs.lemmas.Result.{err_from_is_err_and}
use Rattle.celled_search.proofs.Tested.{passed, out-refused, out-worked}
use Rattle.celled_search.proofs.search.Goals as goal

pub returns-in_err-search_refusal : goal.returns-in_err-search_refusal
returns-in_err-search_refusal c =
    let p = err_from_is_err_and c.from_residual.result c.from_residual.ensures.1 in
    rw (p.1, p.2) (out-refused _ _ (sym c.search_refusal.ensures ∙ c.in_err-search_refusal.was))

pub search_ready-requires : goal.search_ready-requires
search_ready-requires c =
    let p = passed _ (sym c.search_refusal.ensures ∙ c.in_ok-search_refusal.was) in
    record { ready = p.ready; sums_len = (p.even, p.table-long) }

pub returns : goal.returns
returns c = out-worked _ (sym c.search_refusal.ensures ∙ c.in_ok-search_refusal.was) _ c.search_ready.ensures
