use Rattle.std.proofs.Common.{rules, [], ◌∷◌, ◌++◌, true, false, refl, sym, subst, ◌∙◌, arith}
use Rattle.std.specs.Fn.{FnReturnsAt}
use Rattle.std.proofs.lemmas.Fn.{says_at}
use Rattle.recorded.specs.Layout.{cases_of}
use Rattle.recorded.proofs.Walked.{walked-none, walked-more, walked-done}
use Rattle.recorded.proofs.replay.replayed.Goals as goal

pub loop-i-init : goal.loop-i-init
loop-i-init g c = (search rules, ([], walked-none _ _ _ _ c.default-t.ensures.0 c.default-t.ensures.1))

pub loop-i-preserved : goal.loop-i-preserved
loop-i-preserved g c =
    let (answers, walked) = c.loop-i.invariant.1 in
    let here = says_at g.F.Fn c.agrees-agree.ensures refl in
    let of_body = subst (λ x. FnReturnsAt g.F.Fn c.args.agrees x c.agrees-agree.result) c.body.ensures here in
    (search rules, (answers ++ (c.agrees-agree.result ∷ []), walked-more _ _ _ walked of_body c.counted-t.ensures c.next-at.ensures))

pub returns-then-ends : goal.returns-then-ends
returns-then-ends g c =
    walked-done (cases_of c.args.file.now) true c.loop-i.t c.loop-i.invariant.1.1 (omega (arith, c.cases-i-end.ensures)) (omega (arith, c.cases-i-end.ensures)) (sym c.if-ends.true ∙ c.ends.ensures) refl

pub returns : goal.returns
returns g c =
    walked-done (cases_of c.args.file.now) false c.counted.result c.loop-i.invariant.1.1 (omega (arith, c.cases-i-end.ensures)) (omega (arith, c.cases-i-end.ensures)) (sym c.if-ends.false ∙ c.ends.ensures) c.counted.ensures
