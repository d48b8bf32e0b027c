-- What a training reaches: the counts add up, the draws used are among those lent, and the centres keep their length.
use Prim.Native.Nat.{ℕ, zero, suc, ◌*◌, ◌≤◌, ◌<◌}
use mathlib.Core.Path.{◌≡◌, refl}
use native.Mathlib.Omega.{arith}
use lib.ListN.{length}
use lib.Dec.{ltb}
use Rattle.lists.proofs.Joins.{length-grid}
use Rattle.lists.proofs.Tables.{length-tab, get_or-tab}
use Rattle.std.specs.Prelude.{Option, Some, None, Ok, Err}
use Rattle.answers.specs.declared.Step.{Step}
use Rattle.answers.specs.declared.Step.TheVariants.{Start, Averaging}
use Rattle.answers.specs.Answers.{Clustered}
use Rattle.kmeans_assign.specs.Task.{Task}
use Rattle.kmeans_split.specs.Run.{Run, onward_by}
use Rattle.kmeans_average.specs.Average.{count_at, averages_of, average_at}
use Rattle.kmeans_assign.specs.Assign.{chosen_at, assigned_of}
use Rattle.kmeans_average.specs.Finite.{lowest_broken}
use Rattle.kmeans_start.specs.Start.{started, start_at}
use Rattle.kmeans.specs.Kmeans.{tested, averaged, epoch_of, beginning, epochs_to, train}
use Rattle.kmeans_split.specs.SplitFacts.{Counted, Drawn}
use Rattle.kmeans_assign.proofs.Assigning.{chosen-rule}
use Rattle.kmeans_split.proofs.Counts.{total-counts}
use Rattle.kmeans_split.proofs.Keeping.{either, split-keeps, fill-counted, fill-drawn, Sized, fill-sized}

-- ---- the counts

averaged-counted : (t : Task) (epoch : ℕ) (r : Run) (used : ℕ) → 0 < t.centers → Counted t (averaged t epoch r used)
unfolding averaged
averaged-counted t epoch r used h =
    let to = assigned_of t r.centers in
    record {
      each = length-tab (count_at t to) t.centers;
      sum = total-counts to t.n t.centers (λ k l. rw (get_or-tab (chosen_at t r.centers) t.n k 0 l) (chosen-rule (t.value k) r.centers t.w t.centers h).below);
    }

-- the counts add up at the end of every epoch
pub epoch-counted : (t : Task) (epoch : ℕ) (r : Run) (used : ℕ) → 0 < t.centers → Counted t (epoch_of t epoch r used)
unfolding epoch_of
epoch-counted t epoch r used h =
    let a = averaged-counted t epoch r used h in
    either (Counted t) (ltb epoch t.epochs)
    (λ e. split-keeps t epoch (Counted t) (λ i u q l e z c. fill-counted t epoch i u q l z c) (averaged t epoch r used) a t.centers (omega arith)) a

-- and so where a training of one epoch or more ends without a refusal
pub epochs-counted : (t : Task) (used e u : ℕ) → 0 < t.centers → (epochs_to t used (suc e)).answer ≡ Ok u → Counted t (epochs_to t used (suc e))
unfolding epochs_to
epochs-counted t used e u h d = go (epochs_to t used e) (epochs_to t used e).answer refl d
  where
    go : (r : Run) (c : Clustered) → r.answer ≡ c → (onward_by c r (epoch_of t (suc e) r)).answer ≡ Ok u → Counted t (onward_by c r (epoch_of t (suc e) r))
    go r (Ok v) p q = epoch-counted t (suc e) r v h
    go r (Err why) p q = cc

-- ---- the draws used

module _ (t : Task) (before : ℕ) where
  abbrev Within : Clustered → Type 0
  Within c = Drawn before (length t.draws) c

  -- the test for 9 uses no draws
  tested-drawn : (step : Step) (epoch used : ℕ) (broken : Option ℕ) → Within (Ok used) → Within (tested step epoch used broken)
  tested-drawn step epoch used None d = d
  tested-drawn step epoch used (Some i) d = tt

  averaged-drawn : (epoch : ℕ) (r : Run) (used : ℕ) → Within (Ok used) → Within (averaged t epoch r used).answer
  unfolding averaged
  averaged-drawn epoch r used d =
      let cs = averages_of t (assigned_of t r.centers) in
      tested-drawn Averaging epoch used (lowest_broken cs t.w t.centers) d

  epoch-drawn : (epoch : ℕ) (r : Run) (used : ℕ) → Within (Ok used) → Within (epoch_of t epoch r used).answer
  unfolding epoch_of
  epoch-drawn epoch r used d =
      let P : Run → Type 0 = λ q. Within q.answer in
      let a = averaged-drawn epoch r used d in
      either P (ltb epoch t.epochs)
      (λ e. split-keeps t epoch P (λ i u q l f z p. fill-drawn t before epoch i u q (rw f at p)) (averaged t epoch r used) a t.centers (omega arith)) a

  -- after each epoch
  pub epochs-drawn : before ≤ length t.draws → (e : ℕ) → Within (epochs_to t before e).answer
  unfolding epochs_to beginning
  epochs-drawn h zero = tested-drawn Start 0 before (lowest_broken (started t) t.w t.centers) (omega arith)
  epochs-drawn h (suc e) = go (epochs_to t before e) (epochs_to t before e).answer (epochs-drawn h e) (epochs-drawn h e)
    where
      go : (r : Run) (c : Clustered) → Within c → Within r.answer → Within (onward_by c r (epoch_of t (suc e) r)).answer
      go r (Ok used) d p = epoch-drawn (suc e) r used d
      go r (Err why) d p = p

-- and after a training
pub train-drawn : (t : Task) (used : ℕ) → used ≤ length t.draws → Drawn used (length t.draws) (train t used).answer
train-drawn t used h = epochs-drawn t used h t.epochs

-- and where the epochs stand
pub epochs-drawn-at : (t : Task) (before at e : ℕ) (q : Run) → q ≡ epochs_to t before e → q.answer ≡ Ok at → before ≤ length t.draws → at ≤ length t.draws
epochs-drawn-at t before at e q g f d = (rw (← g, f) at (epochs-drawn t before d e)).1

-- ---- the length of the centres

epoch-sized : (t : Task) (epoch : ℕ) (r : Run) (used : ℕ) → Sized t (epoch_of t epoch r used)
unfolding epoch_of averaged
epoch-sized t epoch r used =
    let a = length-grid (average_at t (assigned_of t r.centers)) t.centers t.w in
    either (Sized t) (ltb epoch t.epochs) (λ e. split-keeps t epoch (Sized t) (λ i u q l f z p. fill-sized t epoch i u q l p) _ a t.centers (omega arith)) a

epochs-sized : (t : Task) (used e : ℕ) → Sized t (epochs_to t used e)
unfolding epochs_to beginning
epochs-sized t used zero = length-grid (start_at t) t.centers t.w
epochs-sized t used (suc e) = go (epochs_to t used e) (epochs_to t used e).answer (epochs-sized t used e)
  where
    go : (r : Run) (c : Clustered) → Sized t r → Sized t (onward_by c r (epoch_of t (suc e) r))
    go r (Ok u) p = epoch-sized t (suc e) r u
    go r (Err why) p = p

pub train-sized : (t : Task) (used : ℕ) → length (train t used).centers ≡ t.centers * t.w
train-sized t used = epochs-sized t used t.epochs
