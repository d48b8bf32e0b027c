-- The tests of a plain training: what follows from what they answer.
use mathlib.Core.Path.{◌≡◌, sym, ◌∙◌, ap}
use mathlib.Core.Bool.{Bool, ◌||◌}
use mathlib.Core.List.{[], ◌∷◌}
use lib.ListN.{length}
use borrow.Author.Tests.{ltb-false}
use Rattle.std.specs.Prelude.{Ok, Err}
use Rattle.answers.specs.declared.Refusal.{Refusal}
use Rattle.answers.specs.Answers.{Checked}
use Rattle.lists.specs.Tests.{any_of}
use Rattle.lists.proofs.Tests.{none, or_l, or_r}
use Rattle.pq_params.specs.declared.PlainLengths.{PlainLengths}
use Rattle.pq_params.specs.Bounds.{bad_plain, bad_epochs, too_many_draws}
use Rattle.pq_params.specs.Lengths.{plain_of, plain_lengths}
use Rattle.pq_params.specs.Refusals.{not_long, train_tests}
use Rattle.pq_params.proofs.Refusing.{same-long, train-passed, train-agree, plain-long}
use Rattle.pq_train.proofs.Draws.{in-range}
use Rattle.plain_train.specs.Outcome.{TrainIn, train_lengths, train_refusal, train_unchanged, train_ended, train_outcome}
use Rattle.plain_train.specs.TrainInner.{Ready}

module _ (i : TrainIn) where
  abbrev bad : Bool
  bad = bad_plain i.shape || bad_epochs i.epochs

  abbrev wrong : PlainLengths → Bool
  wrong l = any_of (train_lengths l i)

  -- the tests as the code makes them, from the lengths that it is told
  abbrev pub tests_in : Checked
  tests_in = train_tests bad i.n (wrong (plain_lengths i.shape i.n)) i.rows i.draws

  -- the same from what its calls answer
  pub tests-told : {b e many : Bool} {l : PlainLengths} → b ≡ bad_plain i.shape → e ≡ bad_epochs i.epochs → l ≡ plain_lengths i.shape i.n → many ≡ too_many_draws (length i.draws)
      → train_tests (b || e) i.n (any_of (not_long i.rows l.rows ∷ not_long i.subs l.subs ∷ not_long i.codes l.codes ∷ not_long i.work l.work ∷ many ∷ [])) i.rows i.draws ≡ tests_in
  tests-told p q r t = rw (p, q, r, t)

  refusal_is : tests_in ≡ train_refusal i
  unfolding train_refusal
  refusal_is =
      train-agree bad i.n (wrong (plain_lengths i.shape i.n)) (wrong (plain_of i.shape i.n)) i.rows i.draws
      (λ g few. ap wrong (plain-long i.shape i.n (or_l (bad_plain i.shape) (bad_epochs i.epochs) g) few))

  pub out-refused : (r : Refusal) → Err r ≡ tests_in → train_unchanged i r ≡ train_outcome i
  unfolding train_outcome
  out-refused r e = rw (sym (e ∙ refusal_is))

  module _ (e : Ok tt ≡ tests_in) where
    pub out-worked : train_ended i ≡ train_outcome i
    unfolding train_outcome
    out-worked = rw (sym (e ∙ refusal_is))

    pub ready : Ready i
    unfolding train_refusal
    ready =
        let p = train-passed bad i.n (wrong (plain_of i.shape i.n)) i.rows i.draws (sym (e ∙ refusal_is)) in
        let l = none (train_lengths (plain_of i.shape i.n) i) p.right in
        record {
          good = or_l (bad_plain i.shape) (bad_epochs i.epochs) p.good;
          few-epochs = ltb-false 1000 i.epochs (or_r (bad_plain i.shape) (bad_epochs i.epochs) p.good);
          some-row = p.some-row;
          rows-le = p.rows_few;
          in-range = in-range i.draws p.drawn;
          rows_long = same-long i.rows _ (l 0);
          subs-long = same-long i.subs _ (l 1);
          codes-long = same-long i.codes _ (l 2);
          work-long = same-long i.work _ (l 3);
        }
