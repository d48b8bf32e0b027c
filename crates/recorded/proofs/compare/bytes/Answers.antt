use Rattle.std.proofs.Common.{rules, length, ◌∙◌}
use borrow.Author.Tests.{tests}
use Rattle.std.proofs.lemmas.Iterator.{YieldsList-from_range}
use Rattle.std.proofs.lemmas.Iterator.Search.{all_from_yields_List}
use Rattle.lending.proofs.Laws.{all-every_below}
use Rattle.recorded.specs.Layout.{padded_words}
use Rattle.recorded.specs.Compare.{as_word}
use Rattle.recorded.proofs.compare.bytes.Goals as goal

pub returns : goal.returns
returns c =
    let test = as_word c.args.body.now c.args.at c.args.s.now in
    let n = padded_words (length c.args.s.now) in
    all_from_yields_List test _ _ _ c.all.ensures.ran (YieldsList-from_range 0 n n (cc) (search rules)) (λ x b q k. search (rules, tests))
    ∙ all-every_below test n
