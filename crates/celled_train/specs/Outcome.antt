-- Celled training: for any input, the answer and every lent buffer afterwards.
use Rattle.std.specs.Prelude.{ℕ, List, [], ◌∷◌, ◌++◌, Ok, Err, Bool, ◌||◌, length, Float}
use Rattle.lists.specs.Lists.{fill, join, grid}
use Rattle.lists.specs.Tests.{any_of}
use Rattle.metrics.specs.Distance.{zero32}
use Rattle.answers.specs.declared.Refusal.{Refusal}
use Rattle.answers.specs.declared.Untrained.TheVariants.{Refused}
use Rattle.answers.specs.declared.TrainAnswer.{TrainAnswer}
use Rattle.answers.specs.Answers.{Trained, Checked, unless, number_of, no_place, train_said, ended}
use Rattle.pq_params.specs.declared.CelledLengths.{CelledLengths}
use Rattle.pq_params.specs.Bounds.{bad_celled, bad_epochs, too_many_draws}
use Rattle.pq_params.specs.Lengths.{celled_of}
use Rattle.pq_params.specs.Refusals.{not_long, train_tests}
use Rattle.celled_lists.specs.Cells.{filled_starts, filled_members}
use Rattle.celled_lists.specs.Index.{Index, lengths_of, length_tests}
use Rattle.celled_cells.specs.Training.{Given, coarse_centers, cell_of, reached_cell, cell_centers, celled_code}

-- ---- what a training is given, and what it leaves

-- the index has its numbers, its row count and the lent buffers
pub record TrainIn : Type 0 where
  pub epochs : ℕ
  pub rows : List Float
  pub draws : List Float
  pub index : Index
  pub work : List ℕ

abbrev pub train_in : ℕ → List Float → List Float → Index → List ℕ → TrainIn
train_in epochs rows draws index work = record { epochs = epochs; rows = rows; draws = draws; index = index; work = work }

-- the answer, what it says in document 01's numbers, the index and work
pub record TrainOut : Type 0 where
  pub answer : Trained
  pub said : TrainAnswer
  pub index : Index
  pub work : List ℕ

abbrev pub train_out : Trained → Index → List ℕ → TrainOut
train_out answer index work = record { answer = answer; said = train_said answer; index = index; work = work }

-- ---- tests 1, 2, 3, 4, 6, 7

-- 4: a buffer not of its length, or too many draws
abbrev pub train_lengths : CelledLengths → TrainIn → List Bool
train_lengths l i =
    length_tests l (lengths_of i.index)
    ++ (not_long i.rows l.rows ∷ not_long i.work l.work ∷ too_many_draws (length i.draws) ∷ [])

unfoldable pub train_refusal : TrainIn → Checked
train_refusal i =
    let s = i.index.shape in
    let n = i.index.n in
    train_tests (bad_celled s || bad_epochs i.epochs) n (any_of (train_lengths (celled_of s n) i)) i.rows i.draws

-- ---- the outcome

abbrev pub given_of : TrainIn → Given
given_of i = record { shape = i.index.shape; epochs = i.epochs; n = i.index.n; rows = i.rows; draws = i.draws }

-- refusals 1 to 7: nothing changed
abbrev pub train_unchanged : TrainIn → Refusal → TrainOut
train_unchanged i r = record {
  answer = Err (Refused r);
  said = record { number = number_of r; place = no_place; used = 0 };
  index = i.index;
  work = i.work;
}

-- refusals 8 and 9: outputs and work zero
abbrev pub zero_index : Index → Index
zero_index x = record {
  shape = x.shape;
  n = x.n;
  coarse = fill zero32 (length x.coarse);
  starts = fill 0 (length x.starts);
  members = fill 0 (length x.members);
  subs = fill zero32 (length x.subs);
  codes = fill 0 (length x.codes);
}

abbrev pub train_zero : TrainIn → Trained → TrainOut
train_zero i answer = record { answer = answer; said = train_said answer; index = zero_index i.index; work = fill 0 (length i.work) }

-- the index that the steps make
abbrev pub trained_index : Given → Index
trained_index g = record {
  shape = g.shape;
  n = g.n;
  coarse = coarse_centers g;
  starts = filled_starts (cell_of g) g.n g.shape.cells;
  members = filled_members (cell_of g) g.n g.shape.cells;
  subs = join (cell_centers g) g.shape.cells;
  codes = grid (celled_code g) g.n g.shape.plain.nsub;
}

abbrev pub train_done : TrainIn → ℕ → TrainOut
train_done i used = record {
  answer = Ok used;
  said = record { number = 0; place = no_place; used = used };
  index = trained_index (given_of i);
  work = fill 0 (length i.work);
}

-- what a training whose input passed the tests leaves
abbrev pub train_ended : TrainIn → TrainOut
train_ended i = ended (reached_cell (given_of i) i.index.shape.cells) (train_done i) (train_zero i)

unfoldable pub train_outcome : TrainIn → TrainOut
train_outcome i = unless (train_refusal i) (train_ended i) (train_unchanged i)
