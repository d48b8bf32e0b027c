-- `search_refusal`: the tests are the definition's.
use Rattle.std.proofs.Common.{◌∙◌}
use Rattle.cell_walk.specs.Results.{lent}
use Rattle.probed_cells.specs.Search.{asking_in}
use Rattle.celled_search.proofs.Tested.{refusal_is}
use Rattle.celled_search.proofs.search_refusal.Goals as goal

pub returns : goal.returns
returns c =
    let a = c.args in
    rw (c.bad_celled-bad.ensures, c.celled_lengths-l.ensures) at c.search_refusal.ensures
    ∙ refusal_is (record { asked = asking_in a.a; lent = lent a.rows.now a.sums.now a.table.now })
