-- The tests of a celled training: what follows from the number that they answer.
use mathlib.Core.Path.{◌≡◌, sym, ◌∙◌, ap}
use mathlib.Core.List.{[], ◌∷◌}
use mathlib.Core.Bool.{Bool, ◌||◌}
use borrow.Author.Tests.{ltb-false}
use lib.ListN.{length}
use Rattle.std.specs.Prelude.{Ok, Err}
use Rattle.lists.specs.Tests.{any_of}
use Rattle.lists.proofs.Tests.{none, none_left, or_l, or_r}
use Rattle.answers.specs.declared.Refusal.{Refusal}
use Rattle.answers.specs.Answers.{Checked}
use Rattle.pq_params.specs.declared.CelledLengths.{CelledLengths}
use Rattle.pq_params.specs.Bounds.{bad_celled, bad_epochs, too_many_draws}
use Rattle.pq_params.specs.Lengths.{celled_of, celled_lengths}
use Rattle.pq_params.specs.Refusals.{not_long}
use Rattle.pq_params.proofs.Bounds.{celled-bounds}
use Rattle.pq_params.proofs.Refusing.{same-long, train-passed, train-agree, celled-long}
use Rattle.pq_train.proofs.Draws.{in-range}
use Rattle.celled_lists.specs.Index.{index_lengths}
use Rattle.celled_lists.proofs.Lengths.{sized}
use Rattle.celled_train.specs.Outcome.{TrainIn, train_lengths, train_refusal, train_unchanged, train_ended, train_outcome}
use Rattle.celled_train.specs.TrainInner.{refusal_by, Ready}

module _ (i : TrainIn) where
  abbrev bad : Bool
  bad = bad_celled i.index.shape || bad_epochs i.epochs

  abbrev wrong : CelledLengths → Bool
  wrong l = any_of (train_lengths l i)

  abbrev right : CelledLengths
  right = celled_of i.index.shape i.index.n

  -- what the code's tests answer, from the lengths that it is told
  abbrev refusal_in : Checked
  refusal_in = refusal_by i.index i.epochs i.rows i.draws (length i.work)

  refusal_is : refusal_in ≡ train_refusal i
  unfolding train_refusal
  refusal_is =
      train-agree bad i.index.n (wrong (celled_lengths i.index.shape i.index.n)) (wrong right) i.rows i.draws
      (λ g few. ap wrong (celled-long i.index.shape i.index.n (or_l (bad_celled i.index.shape) (bad_epochs i.epochs) g) few))

  module _ (r : Checked) (e : r ≡ refusal_by i.index i.epochs i.rows i.draws (length i.work)) where
    pub out-refused : (why : Refusal) → r ≡ Err why → train_unchanged i why ≡ train_outcome i
    unfolding train_outcome
    out-refused why h = let k : train_refusal i ≡ Err why = sym (e ∙ refusal_is) ∙ h in rw k

    passed-is : r ≡ Ok tt → train_refusal i ≡ Ok tt
    passed-is z = sym (e ∙ refusal_is) ∙ z

    pub out-worked : r ≡ Ok tt → train_ended i ≡ train_outcome i
    unfolding train_outcome
    out-worked z = rw (passed-is z)

    pub ready : r ≡ Ok tt → Ready i
    unfolding train_refusal
    ready z =
        let p = train-passed bad i.index.n (wrong right) i.rows i.draws (passed-is z) in
        let b = celled-bounds i.index.shape (or_l (bad_celled i.index.shape) (bad_epochs i.epochs) p.good) in
        let l = none (train_lengths right i) p.right in
        record {
          held = record {
            good = b.plain;
            some-cell = b.cells-some;
            cells-le = b.cells-most;
            few-epochs = ltb-false 1000 i.epochs (or_r (bad_celled i.index.shape) (bad_epochs i.epochs) p.good);
            some-row = p.some-row;
            rows-le = p.rows_few;
            rows_long = same-long i.rows _ (l 5);
            in-range = in-range i.draws p.drawn;
          };
          sized = sized i.index (none_left (index_lengths i.index) (not_long i.rows right.rows ∷ not_long i.work right.work ∷ too_many_draws (length i.draws) ∷ []) p.right);
          work-long = same-long i.work _ (l 6);
        }
