-- `search_ready`: blank results, then damage, or the search in the one cell; and at every end the table is filled with zeros.
use Rattle.std.proofs.Common.{◌≡◌, length, sym, ◌∙◌, ap, rules}
use Rattle.lists.specs.Lists.{fill}
use Rattle.metrics.specs.Distance.{zero32}
use Rattle.cell_codes.specs.Codes.{cell_of}
use Rattle.cell_walk.specs.Results.{lent}
use Rattle.cell_walk.proofs.Cells.{holding-none}
use Rattle.plain_search.proofs.OneCell.{worked-damaged, worked-cell}
use Rattle.plain_search.proofs.search_ready.Goals as goal

pub codes_sound-requires : goal.codes_sound-requires
codes_sound-requires c = (c.requires.table_of.plain, c.requires.rows-of)

pub returns-then-not-codes_sound : goal.returns-then-not-codes_sound
returns-then-not-codes_sound c =
    let a = c.args in
    let b = c.blank.ensures in
    worked-damaged (cell_of a.z) (lent a.rows.now a.sums.now a.table.now) _ _ _ (sym c.codes_sound.ensures ∙ c.if-not-codes_sound.true)
    b.rows-blank b.sums-blank c.fill.ensures

pub search_cell-answer-requires : goal.search_cell-answer-requires
search_cell-answer-requires c =
    let b = c.blank.ensures in record {
      searching = record { table_of = c.requires.table_of; rows-of = c.requires.rows-of; sound = sym c.codes_sound.ensures ∙ c.if-not-codes_sound.false };
      held = (holding-none _ _ _ b.rows-blank b.sums-blank).again;
    }

pub returns : goal.returns
returns c =
    let a = c.args in
    let b = c.blank.ensures in
    let v = c.search_cell-answer in
    let w : length v.new.table ≡ length a.table.now = search rules in
    worked-cell (cell_of a.z) (lent a.rows.now a.sums.now a.table.now) _ _ _ _ _ _ _ _ (sym c.codes_sound.ensures ∙ c.if-not-codes_sound.false)
    b.rows-blank b.sums-blank (c.fill-2.ensures ∙ ap (fill zero32) w) v.ensures
