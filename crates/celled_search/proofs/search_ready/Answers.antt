-- `search_ready`: the steps begin with what is cleared, and there is a place for each cell to probe.
use Rattle.std.proofs.Common.{sym, ◌∙◌, rules}
use Rattle.cell_walk.specs.Results.{lent}
use Rattle.celled_search.proofs.Steps.{cleared, worked-as, worked-starts}
use Rattle.celled_search.proofs.search_ready.Goals as goal

pub returns-then-not-starts_sound : goal.returns-then-not-starts_sound
returns-then-not-starts_sound c =
    let a = c.args in
    worked-starts _ (lent a.rows.now a.sums.now a.table.now) _ _ _ c.blank.ensures c.fill.ensures (sym c.starts_sound.ensures ∙ c.if-not-starts_sound.true)

pub search_nearest-requires : goal.search_nearest-requires
search_nearest-requires c = record {
  stepping = record {
    ready = c.requires.ready;
    starts-good = sym c.starts_sound.ensures ∙ c.if-not-starts_sound.false;
    places-long = search rules;
    table-long = search rules;
  };
  cleared = cleared _ _ _ _ _ c.blank.ensures c.fill.ensures;
}

pub returns : goal.returns
returns c =
    let a = c.args in
    worked-as _ (lent a.rows.now a.sums.now a.table.now) _ _ c.search_nearest.ensures (search rules) (search rules)
