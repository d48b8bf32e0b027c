-- A k-means depends on its values only at the rows and coordinates that it goes over.
use Prim.Native.Nat.{ℕ, zero, suc, ◌<◌}
use mathlib.Core.Path.{◌≡◌, refl, ap, fun_ext}
use mathlib.Core.List.{List}
use mathlib.Core.Bool.{Bool}
use native.Mathlib.Omega.{arith}
use lib.IntN.{pos}
use lib.Ieee.{Float, binary32, div, of_int}
use Rattle.lists.proofs.Tables.{tab-ext}
use Rattle.lists.proofs.Joins.{grid-ext}
use Rattle.metrics.proofs.Laws.{sum-ext}
use Rattle.kmeans_assign.specs.Task.{Task}
use Rattle.kmeans_split.specs.Run.{Run, onward_by}
use Rattle.kmeans_start.specs.Start.{column, mean_at, mean_of, start_at, started}
use Rattle.kmeans_assign.specs.Assign.{assigned_of}
use Rattle.kmeans_average.specs.Average.{is_of, count_at, sum_where, average_at, averages_of}
use Rattle.kmeans_split.specs.Split.{split_off, fill_center, split_to}
use Rattle.kmeans.specs.Kmeans.{averaged, epoch_of, beginning, epochs_to, train}
use Rattle.kmeans_assign.proofs.Choosing.{chosen-ext}

-- a sum over some rows depends on these rows' values alone
where-ext : (p : ℕ → Bool) (f g : ℕ → Float) (n : ℕ) → ((k : ℕ) → k < n → f k ≡ g k) → sum_where p f n ≡ sum_where p g n
unfolding sum_where
where-ext p f g zero h = refl
where-ext p f g (suc n) h = rw (where-ext p f g n (λ k l. h k (omega arith)), h n (omega arith))

module _ (t : Task) (v : ℕ → ℕ → Float) (same : (k : ℕ) → k < t.n → (j : ℕ) → j < t.w → t.value k j ≡ v k j) where
  -- the same k-means with the values v
  abbrev pub valued : Task
  valued = record { value = v; n = t.n; w = t.w; centers = t.centers; epochs = t.epochs; draws = t.draws }

  mean-same : (j : ℕ) → j < t.w → mean_at t j ≡ mean_at valued j
  unfolding mean_at
  mean-same j h = ap (λ (x : Float). div binary32 x (of_int binary32 (pos t.n))) (sum-ext (column t j) (column valued j) t.n (λ k l. same k l j h))

  started-same : started t ≡ started valued
  unfolding start_at
  started-same = grid-ext _ _ t.centers t.w (λ i h j l. rw (mean-same j l))

  pub assigned-same : (cs : List Float) → assigned_of t cs ≡ assigned_of valued cs
  assigned-same cs = tab-ext _ _ t.n (λ k h. chosen-ext (t.value k) (v k) cs t.w t.centers (same k h))

  averages-same : (to : List ℕ) → averages_of t to ≡ averages_of valued to
  unfolding average_at
  averages-same to = grid-ext _ _ t.centers t.w (λ i h j l. ap (mean_of (count_at t to i)) (where-ext (is_of to i) (column t j) (column valued j) t.n (λ k m. same k m j l)))

  averaged-same : (epoch : ℕ) (r : Run) (used : ℕ) → averaged t epoch r used ≡ averaged valued epoch r used
  unfolding averaged
  averaged-same epoch r used = rw (assigned-same r.centers, averages-same (assigned_of valued r.centers))

  -- a split looks at no value
  split-same : (epoch : ℕ) (r : Run) (i : ℕ) → split_to t epoch r i ≡ split_to valued epoch r i
  unfolding split_to fill_center split_off
  split-same epoch r zero = refl
  split-same epoch r (suc i) = rw (split-same epoch r i)

  epoch-same : (epoch : ℕ) (r : Run) (used : ℕ) → epoch_of t epoch r used ≡ epoch_of valued epoch r used
  unfolding epoch_of
  epoch-same epoch r used = rw (averaged-same epoch r used, split-same epoch (averaged valued epoch r used) t.centers)

  epochs-same : (used e : ℕ) → epochs_to t used e ≡ epochs_to valued used e
  unfolding epochs_to beginning
  epochs-same used zero = rw started-same
  epochs-same used (suc e) =
      let r = epochs_to valued used e in
      rw (epochs-same used e) (ap (onward_by r.answer r) (fun_ext (λ at. epoch-same (suc e) r at)))

  pub train-same : (used : ℕ) → train t used ≡ train valued used
  train-same used = epochs-same used t.epochs
