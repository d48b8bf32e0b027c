-- `fill_lists`: the cells go to the first words of work, and the lists are made from them.
use borrow.Author.Rules.{rules}
use mathlib.Core.Path.{◌∙◌, ap}
use lib.Seq.{length_front}
use Rattle.lists.specs.Lists.{fill}
use Rattle.celled_fill.proofs.Coarse.{front-celled, front_lists}
use Rattle.celled_fill.proofs.fill_lists.Goals as goal

pub fill_lists-requires : goal.fill_lists-requires
fill_lists-requires c =
    let v = c.assign_cells in
    record {
      cells-most = c.requires.0.cells-le;
      rows_few = c.requires.0.rows-le;
      starts-long = c.requires.1.starts-long;
      members-long = c.requires.1.members-long;
      work-long = length_front c.args.work.now v.new.cells c.args.n (search rules) ∙ c.requires.1.work-long;
      celled = front-celled c.requires.0 _ _ v.ensures;
    }

pub returns : goal.returns
returns c =
    let v = c.assign_cells in
    let f = c.fill_lists.ensures in
    let w = length_front c.args.work.now v.new.cells c.args.n (search rules) in
    record { lists = front_lists c.requires.0 _ _ v.ensures f; cleared = f.cleared ∙ ap (fill 0) w }
