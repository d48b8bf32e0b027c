-- Plain training: for any input, the answer and every lent buffer afterwards.
use Rattle.std.specs.Prelude.{ℕ, List, [], ◌∷◌, Bool, ◌||◌, Ok, Err, length, Float}
use Rattle.lists.specs.Lists.{fill, grid}
use Rattle.lists.specs.Tests.{any_of}
use Rattle.metrics.specs.Distance.{zero32}
use Rattle.pq_params.specs.declared.Shape.{Shape}
use Rattle.pq_params.specs.declared.PlainLengths.{PlainLengths}
use Rattle.pq_params.specs.Bounds.{bad_plain, bad_epochs, too_many_draws}
use Rattle.pq_params.specs.Lengths.{plain_of}
use Rattle.pq_params.specs.Refusals.{not_long, train_tests}
use Rattle.answers.specs.declared.Refusal.{Refusal}
use Rattle.answers.specs.declared.Untrained.TheVariants.{Refused}
use Rattle.answers.specs.declared.TrainAnswer.{TrainAnswer}
use Rattle.answers.specs.Answers.{Trained, Checked, number_of, no_place, train_said, ended, unless}
use Rattle.pq_train.specs.Training.{Listed, row_at, answer_of, sub_centers, code_of}

-- ---- what a training is given, and what it leaves

pub record TrainIn : Type 0 where
  pub shape : Shape
  pub epochs : ℕ
  pub n : ℕ
  pub rows : List Float
  pub draws : List Float
  pub subs : List Float
  pub codes : List ℕ
  pub work : List ℕ

abbrev pub train_in : Shape → ℕ → ℕ → List Float → List Float → List Float → List ℕ → List ℕ → TrainIn
train_in shape epochs n rows draws subs codes work =
    record { shape = shape; epochs = epochs; n = n; rows = rows; draws = draws; subs = subs; codes = codes; work = work }

-- the answer, what it says in document 01's numbers, and the lent buffers
pub record TrainOut : Type 0 where
  pub answer : Trained
  pub said : TrainAnswer
  pub subs : List Float
  pub codes : List ℕ
  pub work : List ℕ

abbrev pub train_out : Trained → List Float → List ℕ → List ℕ → TrainOut
train_out answer subs codes work = record { answer = answer; said = train_said answer; subs = subs; codes = codes; work = work }

-- ---- tests 1, 2, 3, 4, 6, 7

-- 4: a buffer not of its length, or too many draws
abbrev pub train_lengths : PlainLengths → TrainIn → List Bool
train_lengths l i =
    not_long i.rows l.rows
    ∷ not_long i.subs l.subs
    ∷ not_long i.codes l.codes
    ∷ not_long i.work l.work
    ∷ too_many_draws (length i.draws)
    ∷ []

unfoldable pub train_refusal : TrainIn → Checked
train_refusal i =
    train_tests (bad_plain i.shape || bad_epochs i.epochs) i.n (any_of (train_lengths (plain_of i.shape i.n) i)) i.rows i.draws

-- ---- The plain index is one list of all rows, without residual.

abbrev pub all_rows : TrainIn → Listed
all_rows i = record {
  shape = i.shape;
  epochs = i.epochs;
  draws = i.draws;
  cell = 0;
  n = i.n;
  value = row_at i.rows i.shape.d;
  used = 0;
}

-- the code of row m in sub-space s
abbrev pub plain_code : TrainIn → ℕ → ℕ → ℕ
plain_code i m = code_of (all_rows i) (row_at i.rows i.shape.d m)

-- ---- the outcome

-- refusals 1 to 7: nothing changed
abbrev pub train_unchanged : TrainIn → Refusal → TrainOut
train_unchanged i r = record {
  answer = Err (Refused r);
  said = record { number = number_of r; place = no_place; used = 0 };
  subs = i.subs;
  codes = i.codes;
  work = i.work;
}

-- refusals 8 and 9: outputs and work zero
abbrev pub train_zero : TrainIn → Trained → TrainOut
train_zero i answer = record {
  answer = answer;
  said = train_said answer;
  subs = fill zero32 (length i.subs);
  codes = fill 0 (length i.codes);
  work = fill 0 (length i.work);
}

abbrev pub train_done : TrainIn → ℕ → TrainOut
train_done i used = record {
  answer = Ok used;
  said = record { number = 0; place = no_place; used = used };
  subs = sub_centers (all_rows i);
  codes = grid (plain_code i) i.n i.shape.nsub;
  work = fill 0 (length i.work);
}

-- what a training whose input passed the tests leaves
abbrev pub train_ended : TrainIn → TrainOut
train_ended i = ended (answer_of (all_rows i)) (train_done i) (train_zero i)

unfoldable pub train_outcome : TrainIn → TrainOut
train_outcome i = unless (train_refusal i) (train_ended i) (train_unchanged i)
