-- The run of a training, as its code goes: step by step, and no further from a refusal on.
use Prim.Native.Nat.{ℕ, zero, suc, ◌+◌, ◌≤◌, ◌<◌}
use mathlib.Core.Path.{◌≡◌, sym, ◌∙◌, ap, subst}
use mathlib.Core.Bool.{Bool, true, false, cond}
use mathlib.Core.List.{List}
use native.Mathlib.Decide.{dec_le}
use native.Mathlib.Omega.{arith}
use native.Mathlib.Numerals.{add-one}
use lib.Ieee.{Float}
use borrow.Author.Tests.{lt-ltb, le-ltb}
use lib.Dec.{ltb}
use Rattle.lists.specs.Lists.{fill}
use Rattle.answers.specs.declared.Step.TheVariants.{Start, Averaging}
use Rattle.std.specs.Prelude.{Option, Some, None, Ok}
use Rattle.answers.specs.declared.Step.{Step}
use Rattle.answers.specs.Answers.{Clustered}
use Rattle.kmeans_assign.specs.declared.Given.{Given}
use Rattle.kmeans_assign.specs.Task.{task_given, row_given, Task}
use Rattle.kmeans_average.specs.Average.{averages_of, counts_of}
use Rattle.kmeans_assign.specs.Assign.{assigned_of}
use Rattle.kmeans_start.specs.Start.{started}
use Rattle.kmeans_average.specs.Finite.{lowest_broken}
use Rattle.kmeans_split.specs.Split.{split_to}
use Rattle.kmeans_split.specs.Run.{Run, run_of}
use Rattle.kmeans.specs.Kmeans.{tested, averaged, epoch_of, epochs_to, beginning, train}
use Rattle.kmeans_average.proofs.Averaging.{averages-same}
use Rattle.kmeans_split.proofs.Runs.{NotDone, stays, split-none, split_stays}

-- what averaging leaves
pub averaged-run : (t : Task) (epoch used : ℕ) (q : Run) (answer : Clustered) (cs : List Float) (to counts : List ℕ) → to ≡ assigned_of t q.centers → cs ≡ averages_of t to
    → counts ≡ counts_of t to → answer ≡ tested Averaging epoch used (lowest_broken cs t.w t.centers) → run_of answer cs to counts ≡ averaged t epoch q used
unfolding averaged
averaged-run t epoch used q answer cs to counts e f g h = rw (h, g, f, e)

-- an epoch whose averaging refuses, the last epoch, and one that splits
pub epoch-refused : (t : Task) (epoch used : ℕ) (r q : Run) → q ≡ averaged t epoch r used → NotDone q.answer → q ≡ epoch_of t epoch r used
unfolding epoch_of
epoch-refused t epoch used r q e d = go (ltb epoch t.epochs)
  where
    go : (b : Bool) → q ≡ cond b (split_to t epoch (averaged t epoch r used) t.centers) (averaged t epoch r used)
    go true = e ∙ sym (rw (← e) (split_stays t epoch q 0 t.centers (omega arith) (rw (split-none t epoch q) d) ∙ split-none t epoch q))
    go false = e

pub epoch-last : (t : Task) (epoch used : ℕ) (r q : Run) → q ≡ averaged t epoch r used → t.epochs ≤ epoch → q ≡ epoch_of t epoch r used
unfolding epoch_of
epoch-last t epoch used r q e h = rw (le-ltb epoch t.epochs h) e

pub epoch-split : (t : Task) (epoch used : ℕ) (r q p : Run) → q ≡ averaged t epoch r used → epoch < t.epochs → p ≡ split_to t epoch q t.centers → p ≡ epoch_of t epoch r used
unfolding epoch_of
epoch-split t epoch used r q p e h f = rw (lt-ltb epoch t.epochs h, ← e) f

-- averaging looks at no draws and uses none
pub averaged-same : (g : Given) (draws : List Float) (epochs epoch used : ℕ) (r : Run) → averaged (row_given g) epoch r used ≡ averaged (task_given g epochs draws) epoch r used
unfolding averaged
averaged-same g draws epochs epoch used r = rw (averages-same g draws epochs (assigned_of (row_given g) r.centers))

tested-used : (step : Step) (epoch used at : ℕ) (broken : Option ℕ) → tested step epoch used broken ≡ Ok at → at ≡ used
tested-used step epoch used at None e = cc
tested-used step epoch used at (Some i) e = cc

pub averaged-done : (t : Task) (epoch used at : ℕ) (r q : Run) → q ≡ averaged t epoch r used → q.answer ≡ Ok at → at ≡ used
unfolding averaged
averaged-done t epoch used at r q e d = tested-used Averaging epoch used at _ (sym (ap (λ (z : Run). z.answer) e) ∙ d)

-- one more epoch, and a refusal, from which on nothing changes
pub epochs-step : (t : Task) (used at e : ℕ) (q p : Run) → q ≡ epochs_to t used e → q.answer ≡ Ok at → p ≡ epoch_of t (e + 1) q at → p ≡ epochs_to t used (e + 1)
unfolding epochs_to
epochs-step t used at e q p g d f = (rw add-one at f) ∙ rw (add-one, ← g, d)

epochs-stay : (t : Task) (used i n : ℕ) → i ≤ n → NotDone (epochs_to t used i).answer → epochs_to t used n ≡ epochs_to t used i
unfolding epochs_to
epochs-stay t used i zero h d = let e : i ≡ 0 = omega arith in rw e
epochs-stay t used i (suc n) h d = elim (dec_le i n) [
  | yes k ↦ rw (epochs-stay t used i n k d) (stays (epochs_to t used i).answer (epochs_to t used i) _ d)
  | no k ↦ let e : i ≡ suc n = omega arith in rw e
]

pub epochs-refused : (t : Task) (used at e : ℕ) (q p : Run) → q ≡ epochs_to t used e → q.answer ≡ Ok at → p ≡ epoch_of t (e + 1) q at → NotDone p.answer → e < t.epochs
    → p ≡ train t used
epochs-refused t used at e q p g d f n h =
    let k = epochs-step t used at e q p g d f in
    k ∙ sym (epochs-stay t used (e + 1) t.epochs (omega arith) (subst (λ (z : Run). NotDone z.answer) k n))

-- what the start leaves, and a refusal there
pub beginning-run : (t : Task) (used : ℕ) (answer : Clustered) (cs : List Float) (to counts : List ℕ) → cs ≡ started t → to ≡ fill 0 t.n → counts ≡ fill 0 t.centers
    → answer ≡ tested Start 0 used (lowest_broken cs t.w t.centers) → run_of answer cs to counts ≡ beginning t used
unfolding beginning
beginning-run t used answer cs to counts e f g h = rw (h, g, f, e)

pub beginning-done : (t : Task) (used at : ℕ) (q : Run) → q ≡ beginning t used → q.answer ≡ Ok at → at ≡ used
unfolding beginning
beginning-done t used at q e d = tested-used Start 0 used at _ (sym (ap (λ (z : Run). z.answer) e) ∙ d)

pub beginning-refused : (t : Task) (used : ℕ) (q : Run) → q ≡ beginning t used → NotDone q.answer → q ≡ train t used
unfolding epochs_to
beginning-refused t used q e d =
    e ∙ sym (epochs-stay t used 0 t.epochs (omega arith) (subst (λ (z : Run). NotDone z.answer) e d))
