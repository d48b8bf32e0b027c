use Rattle.std.proofs.Common.{◌≡◌, refl, ap, ◌∙◌, length, take, rules}
use lib.Seq.{length_front}
use Rattle.lists.specs.Lists.{fill}
use Rattle.plain_train.specs.Outcome.{train_in}
use Rattle.plain_train.proofs.AllRows.{ended-refused, ended-done}
use Rattle.plain_train.proofs.train_ready.Goals as goal

pub returns-in-Ok : goal.returns-in-Ok
returns-in-Ok c =
    let a = c.args in
    let v = c.train_list-t in
    let w : length v.new.assigned ≡ length (take a.n a.work.now) = search rules in
    rw c.in-Ok.is (ended-done (train_in a.s a.epochs a.n a.rows.now a.draws.now a.subs.now a.codes.now a.work.now) a.rows refl _ _ _ _ _ c.in-Ok.ensures c.requires.good c.fill_codes.ensures
    (c.fill.ensures ∙ ap (fill 0) (length_front a.work.now v.new.assigned a.n w)))

pub returns-in-Err : goal.returns-in-Err
returns-in-Err c =
    let a = c.args in
    let v = c.train_list-t in
    let w : length v.new.assigned ≡ length (take a.n a.work.now) = search rules in
    rw c.in-Err.is (ended-refused (train_in a.s a.epochs a.n a.rows.now a.draws.now a.subs.now a.codes.now a.work.now) a.rows refl _ _ _ _ _ c.in-Err.ensures c.fill-in-Err.ensures
    (c.fill.ensures ∙ ap (fill 0) (length_front a.work.now v.new.assigned a.n w)))
