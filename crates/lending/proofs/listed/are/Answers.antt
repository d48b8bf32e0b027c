use Rattle.std.proofs.Common.{rules, eqb, ◌∙◌}
use borrow.Author.Tests.{tests}
use Rattle.std.proofs.lemmas.Iterator.{YieldsList-from_slice}
use Rattle.std.proofs.lemmas.Iterator.Search.{all_from_yields_List}
use Rattle.lending.proofs.Laws.{all-every}
use Rattle.lending.proofs.listed.are.Goals as goal

pub returns : goal.returns
returns g c =
    let word = g.T.Word.word_of in
    all_from_yields_List (λ x. eqb (word x) (word c.args.v)) _ _ _ c.all.ensures.ran (YieldsList-from_slice c.args.s.now cc) (λ x b q k. search (rules, tests))
    ∙ all-every (λ x. eqb (word x) (word c.args.v)) c.args.s.now g.T.Word.none
