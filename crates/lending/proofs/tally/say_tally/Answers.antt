use Rattle.lending.proofs.Failed.{on-err, front-more, front-after}
use Rattle.lending.proofs.tally.say_tally.Goals as goal

pub returns-in_err-say-clause-failed : goal.returns-in_err-say-clause-failed
returns-in_err-say-clause-failed g c =
    on-err _ _ (front-more _ _ _ _ c.in_err-say.ensures.failed)

pub returns-in_err-say_number-clause-failed : goal.returns-in_err-say_number-clause-failed
returns-in_err-say_number-clause-failed g c =
    on-err _ _ (front-after _ _ _ _ _ c.in_ok-say.ensures.said (front-more _ _ _ _ c.in_err-say_number.ensures.failed))

pub returns-in_err-say-2-clause-failed : goal.returns-in_err-say-2-clause-failed
returns-in_err-say-2-clause-failed g c =
    on-err _ _ (front-after _ _ _ _ _ c.in_ok-say.ensures.said (front-after _ _ _ _ _ c.in_ok-say_number.ensures.said (front-more _ _ _ _ c.in_err-say-2.ensures.failed)))

pub returns-in_err-say_number-2-clause-failed : goal.returns-in_err-say_number-2-clause-failed
returns-in_err-say_number-2-clause-failed g c =
    on-err _ _ (front-after _ _ _ _ _ c.in_ok-say.ensures.said (front-after _ _ _ _ _ c.in_ok-say_number.ensures.said (front-after _ _ _ _ _ c.in_ok-say-2.ensures.said (front-more _ _ _ _ c.in_err-say_number-2.ensures.failed))))

pub returns-in_err-say-3-clause-failed : goal.returns-in_err-say-3-clause-failed
returns-in_err-say-3-clause-failed g c =
    on-err _ _ (front-after _ _ _ _ _ c.in_ok-say.ensures.said (front-after _ _ _ _ _ c.in_ok-say_number.ensures.said (front-after _ _ _ _ _ c.in_ok-say-2.ensures.said (front-after _ _ _ _ _ c.in_ok-say_number-2.ensures.said c.in_err-say-3.ensures.failed))))
