use Rattle.std.proofs.Common.{rules, eqb, ◌∙◌}
use borrow.Author.Tests.{tests}
use Rattle.std.proofs.lemmas.Iterator.{YieldsList-from_slice}
use Rattle.std.proofs.lemmas.Iterator.Consumers.{YieldsList-from_enumerate}
use Rattle.std.proofs.lemmas.Iterator.Search.{all_from_yields_List}
use Rattle.lending.proofs.Laws.{all-every_place}
use Rattle.recorded.specs.Layout.{number_at}
use Rattle.recorded.proofs.compare.same.Goals as goal

pub returns : goal.returns
returns g c =
    let word = g.T.Word.word_of in
    all_from_yields_List (λ p. eqb (word p.1) (number_at c.args.body.now c.args.at p.0)) _ _ _ c.all.ensures.ran
    (YieldsList-from_enumerate (YieldsList-from_slice c.args.s.now (cc)) (cc)) (λ x b q k. search (rules, tests))
    ∙ all-every_place (λ j x. eqb (word x) (number_at c.args.body.now c.args.at j)) c.args.s.now g.T.Word.none
