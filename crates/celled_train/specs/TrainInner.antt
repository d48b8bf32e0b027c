-- What the inner functions of the celled training ask of the slices that they are lent, and what they leave there.
use Rattle.std.specs.Prelude.{ℕ, ◌+◌, ◌*◌, ◌≡◌, List, [], ◌∷◌, ◌++◌, Ok, not, ◌||◌, length, eqb, Float}
use Rattle.lists.specs.Lists.{fill}
use Rattle.lists.specs.Tests.{any_of}
use Rattle.metrics.specs.Distance.{zero32}
use Rattle.answers.specs.Answers.{Clustered, Trained, Checked}
use Rattle.pq_params.specs.Bounds.{bad_celled, bad_epochs, too_many_draws}
use Rattle.pq_params.specs.Lengths.{celled_lengths}
use Rattle.pq_params.specs.Refusals.{not_long, train_tests}
use Rattle.kmeans.specs.Kmeans.{train}
use Rattle.celled_lists.specs.Index.{Index, lengths_of, length_tests, Sized}
use Rattle.celled_cells.specs.Training.{Given, coarse_task, coarse_centers, reached_cell}
use Rattle.celled_cells.specs.CellsInner.{Held, Cells}
use Rattle.celled_train.specs.Outcome.{TrainIn, given_of, trained_index}

-- ---- the tests

-- tests 1, 2, 3, 4, 6, 7, by the lengths that `celled_lengths` answers
abbrev pub refusal_by : Index → ℕ → List Float → List Float → ℕ → Checked
refusal_by x epochs rows draws work =
    let long = celled_lengths x.shape x.n in
    train_tests (bad_celled x.shape || bad_epochs epochs) x.n
    (any_of (length_tests long (lengths_of x) ++ (not_long rows long.rows ∷ not (eqb work long.work) ∷ too_many_draws (length draws) ∷ [])))
    rows draws

-- ---- the coarse stage

-- the buffers of the coarse stage are of their lengths
pub record Lent (i : Given) (coarse : List Float) (starts members work : List ℕ) : Type 0 where
  pub coarse-long : length coarse ≡ i.shape.cells * i.shape.plain.d
  pub starts-long : length starts ≡ i.shape.cells + 1
  pub members-long : length members ≡ i.n
  pub work-long : length work ≡ i.n + 1024

-- what the coarse k-means leaves
pub record CoarseMade (i : Given) (answer : Clustered) (coarse : List Float) : Type 0 where
  pub said : answer ≡ (train (coarse_task i) 0).answer
  pub made : coarse ≡ coarse_centers i

-- what the coarse stage leaves
pub record CellsMade (i : Given) (answer : Clustered) (coarse : List Float) (starts members : List ℕ) : Type 0 where
  pub said : answer ≡ (train (coarse_task i) 0).answer
  pub made : (used : ℕ) → answer ≡ Ok used → Cells i coarse starts members

-- ---- all steps

-- what the work counts on: the input has passed the tests
pub record Ready (i : TrainIn) : Type 0 where
  pub held : Held (given_of i)
  pub sized : Sized i.index
  pub work-long : length i.work ≡ i.index.n + 1024

-- what the steps leave
pub record Stepped (i : Given) (answer : Trained) (index : Index) : Type 0 where
  pub said : answer ≡ reached_cell i i.shape.cells
  pub made : (used : ℕ) → answer ≡ Ok used → index ≡ trained_index i

-- what clearing the outputs leaves
pub record Cleared (coarse : List Float) (starts members : List ℕ) (subs : List Float) (codes : List ℕ) (coarse' : List Float)
    (starts' members' : List ℕ) (subs' : List Float) (codes' : List ℕ) : Type 0 where
  pub no-coarse : coarse' ≡ fill zero32 (length coarse)
  pub no-starts : starts' ≡ fill 0 (length starts)
  pub no-members : members' ≡ fill 0 (length members)
  pub no-subs : subs' ≡ fill zero32 (length subs)
  pub no-codes : codes' ≡ fill 0 (length codes)
