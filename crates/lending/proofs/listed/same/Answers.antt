use Rattle.std.proofs.Common.{rules, eqb, get_or, ◌∙◌}
use borrow.Author.Tests.{tests}
use Rattle.std.proofs.lemmas.Iterator.{YieldsList-from_slice}
use Rattle.std.proofs.lemmas.Iterator.Consumers.{YieldsList-from_enumerate}
use Rattle.std.proofs.lemmas.Iterator.Search.{all_from_yields_List}
use Rattle.lending.proofs.Laws.{all-every_place}
use Rattle.lending.proofs.listed.same.Goals as goal

pub returns : goal.returns
returns g c =
    let word = g.T.Word.word_of in
    all_from_yields_List (λ p. eqb (word p.1) (word (get_or c.args.list.now p.0 c.args.rest))) _ _ _ c.all.ensures.ran
    (YieldsList-from_enumerate (YieldsList-from_slice c.args.s.now (cc)) (cc)) (λ x b q k. search (rules, tests))
    ∙ all-every_place (λ j x. eqb (word x) (word (get_or c.args.list.now j c.args.rest))) c.args.s.now g.T.Word.none
