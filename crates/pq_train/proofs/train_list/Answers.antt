use Rattle.std.proofs.Common.{◌≡◌, length, ap, sym, ◌∙◌, rules}
use Rattle.lists.specs.Lists.{fill}
use Rattle.metrics.specs.Distance.{zero32}
use Rattle.pq_train.specs.Inner.{listed_of}
use Rattle.pq_train.proofs.Laws.{list_done, list-refused}
use Rattle.pq_train.proofs.train_list.Goals as goal

pub returns-then-is_err : goal.returns-then-is_err
returns-then-is_err c =
    let a = c.args in
    let v = c.train_center-t in
    let n : length v.new.assigned ≡ length a.assigned.now = search rules in
    let m : length v.new.subs ≡ length a.subs.now = search rules in
    list-refused (listed_of a.l a.draws.now a.used) (length a.subs.now) v.result _ _ _ v.ensures (sym c.is_err.ensures.value ∙ c.if-is_err.true)
    (c.fill-then-is_err.ensures ∙ ap (fill zero32) m) (c.fill.ensures ∙ ap (fill 0) (n ∙ c.requires.lent.assigned-long))

pub returns-else-is_err : goal.returns-else-is_err
returns-else-is_err c =
    let a = c.args in
    let v = c.train_center-t in
    let n : length v.new.assigned ≡ length a.assigned.now = search rules in
    list_done (listed_of a.l a.draws.now a.used) (length a.subs.now) v.result _ _ v.ensures (sym c.is_err.ensures.value ∙ c.if-is_err.false) (c.fill.ensures ∙ ap (fill 0) (n ∙ c.requires.lent.assigned-long))
