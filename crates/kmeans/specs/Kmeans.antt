-- k-means on one range, with or without a residual: document 01's steps 1 to 5 in turn.
use Rattle.std.specs.Prelude.{ℕ, zero, suc, ◌*◌, ◌≤◌, ◌≡◌, List, cond, Option, Some, None, Ok, Err, length, ltb, Float}
use Rattle.lists.specs.Lists.{fill}
use Rattle.answers.specs.declared.Step.{Step}
use Rattle.answers.specs.declared.Step.TheVariants.{Start, Averaging}
use Rattle.answers.specs.declared.Unclustered.TheVariants.{NotFinite}
use Rattle.answers.specs.Answers.{Clustered}
use Rattle.kmeans_assign.specs.declared.Frame.{Frame}
use Rattle.kmeans_assign.specs.Task.{Task}
use Rattle.kmeans_assign.specs.Assign.{assigned_of}
use Rattle.kmeans_start.specs.Start.{started}
use Rattle.kmeans_average.specs.Average.{averages_of, counts_of}
use Rattle.kmeans_average.specs.Finite.{lowest_broken}
use Rattle.kmeans_split.specs.Run.{Run, onward}
use Rattle.kmeans_split.specs.Split.{NotNegative, split_to}

-- the test for 9 after a step: the draws used so far, or the centre that is not finite
abbrev pub tested : Step → ℕ → ℕ → Option ℕ → Clustered
tested step epoch used None = Ok used
tested step epoch used (Some i) = Err (NotFinite step epoch i)

-- steps 3 and 4 of one epoch; test for 9, lowest centre first
unfoldable pub averaged : Task → ℕ → Run → ℕ → Run
averaged t epoch r used =
    let to = assigned_of t r.centers in
    let cs = averages_of t to in
    record {
      answer = tested Averaging epoch used (lowest_broken cs t.w t.centers);
      centers = cs;
      assigned = to;
      counts = counts_of t to;
    }

-- one epoch: split in every epoch but the last
unfoldable pub epoch_of : Task → ℕ → Run → ℕ → Run
epoch_of t epoch r used =
    let a = averaged t epoch r used in
    let split = split_to t epoch a t.centers in
    cond (ltb epoch t.epochs) split a

-- step 1 with its test for 9: start is epoch 0, and the lowest centre at fault is named. No row is assigned yet.
unfoldable pub beginning : Task → ℕ → Run
beginning t used =
    let cs = started t in
    record {
      answer = tested Start 0 used (lowest_broken cs t.w t.centers);
      centers = cs;
      assigned = fill 0 t.n;
      counts = fill 0 t.centers;
    }

-- after some of the epochs, which count from 1
unfoldable pub epochs_to : Task → ℕ → ℕ → Run
epochs_to t used zero = beginning t used
epochs_to t used (suc e) =
    let before = epochs_to t used e in
    onward before (λ (at : ℕ). epoch_of t (suc e) before at)

-- the whole k-means but step 6, `used` draws having been used before it
abbrev pub train : Task → ℕ → Run
train t used = epochs_to t used t.epochs

-- ---- what a training asks

-- the lent runs are as long as the frame says, the draws are in range, and no more are used than lent
pub record Trainable (f : Frame) (draws : List Float) (used : ℕ) (centers : List Float) (assigned counts : List ℕ) : Type 0 where
  pub centers-long : length centers ≡ f.centers * f.w
  pub assigned-long : length assigned ≡ f.n
  pub counts-long : length counts ≡ f.centers
  pub in-range : NotNegative draws
  pub drawn : used ≤ length draws
