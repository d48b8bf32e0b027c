-- A training that succeeds gives an index that passes the whole check.
use Prim.Native.Nat.{ℕ, suc, ◌+◌, ◌*◌, ◌≤◌, ◌<◌}
use mathlib.Core.Path.{◌≡◌, refl, sym, ◌∙◌, ap, subst}
use mathlib.Core.Bool.{Bool, true, false, cond}
use mathlib.Core.List.{List}
use native.Mathlib.Nat.{zero-mul, suc-mul}
use native.Mathlib.Numerals.{add-one}
use lib.ListN.{length}
use lib.Dec.{eqb}
use Rattle.std.specs.Prelude.{Ok, Err}
use Rattle.lists.specs.Lists.{fill}
use Rattle.lists.proofs.Tables.{length-tab}
use Rattle.lists.proofs.Tests.{or_l}
use Rattle.lists.proofs.Joins.{Begins, length-join, length-grid, get_or-grid}
use Rattle.metrics.specs.Distance.{zero32}
use Rattle.answers.specs.Answers.{Trained, ended}
use Rattle.pq_params.specs.Bounds.{bad_celled, bad_epochs, centers_of}
use Rattle.pq_params.specs.Codes.{code_at}
use Rattle.pq_params.specs.Lengths.{subs_long}
use Rattle.pq_params.proofs.Bounds.{celled-bounds, centers-some}
use Rattle.pq_params.proofs.Refusing.{train-passed}
use Rattle.kmeans_assign.proofs.Choosing.{nearest-lt}
use Rattle.kmeans.proofs.Reached.{train-sized}
use Rattle.pq_train.specs.Training.{Listed, centers_at, sub_centers}
use Rattle.pq_train.proofs.Laws.{centers-begin}
use Rattle.celled_lists.specs.Cells.{cell_start}
use Rattle.celled_lists.proofs.CellLists.{lists-long}
use Rattle.celled_check.specs.Check.{check_in, check_outcome}
use Rattle.celled_cells.specs.Training.{Given, coarse_task, cell_of, list_of, reached_cell, trained_cell, cell_centers, celled_code}
use Rattle.celled_train.specs.Outcome.{TrainIn, TrainOut, given_of, train_refusal, train_unchanged, train_zero, trained_index, train_done, train_ended, train_outcome}
use Rattle.celled_search.specs.Outcome.{SearchIn, search_outcome}
use Rattle.policy.specs.Check.{Passes, Acceptable, probing}
use Rattle.policy.specs.Results.{NoRowTwice}
use Rattle.policy.proofs.Unless.{unless_done}
use Rattle.policy.proofs.Check.{bounds_of, accepts-exact}
use Rattle.policy.proofs.Passing.{passes-probing}
use Rattle.policy.proofs.Filled.{filled-order}
use Rattle.policy.proofs.Twice.{no-row-twice}

-- ---- the index that the steps make

listed-long : (l : Listed) → length (sub_centers l) ≡ subs_long l.shape
unfolding sub_centers
listed-long l = length-join (centers_at l) _ (centers-begin l) l.shape.nsub

module _ (g : Given) where
  cell-long : (c : ℕ) → length (cell_centers g c) ≡ subs_long g.shape.plain
  unfolding cell_centers
  cell-long c = go (eqb (length (list_of g c)) 0)
    where
      go : (b : Bool) → length (cond b (fill zero32 (subs_long g.shape.plain)) (sub_centers (trained_cell g c))) ≡ subs_long g.shape.plain
      go true = length-tab (λ (j : ℕ). zero32) (subs_long g.shape.plain)
      go false = listed-long (trained_cell g c)

  subs-begin : Begins (cell_centers g) (λ (c : ℕ). c * subs_long g.shape.plain)
  subs-begin = record {
    first = zero-mul (subs_long g.shape.plain);
    next = λ c. suc-mul c (subs_long g.shape.plain) ∙ ap (λ (w : ℕ). c * subs_long g.shape.plain + w) (sym (cell-long c));
  }

module _ (g : Given) (good : bad_celled g.shape ≡ false) where
  row-celled : (m : ℕ) → m < g.n → cell_of g m < g.shape.cells
  row-celled m h = nearest-lt _ g.shape.cells (celled-bounds g.shape good).cells-some

  code_below : (m : ℕ) → m < g.n → (s : ℕ) → s < g.shape.plain.nsub
      → code_at (trained_index g).codes g.shape.plain.nsub m s < centers_of g.shape.plain.bits
  unfolding celled_code
  code_below m h s k =
      rw (get_or-grid (celled_code g) g.n g.shape.plain.nsub m s 0 h k) (nearest-lt _ (centers_of g.shape.plain.bits) (centers-some g.shape.plain.bits))

  made-acceptable : (work : List ℕ) → g.n ≤ 100_001 → length work ≡ g.n + 1024 → Acceptable (check_in (trained_index g) work)
  made-acceptable work few long = record {
    bounds = bounds_of (trained_index g) good few;
    lengths = record {
      coarse = train-sized (coarse_task g) 0;
      starts = length-tab (cell_start (cell_of g) g.n) (suc g.shape.cells) ∙ sym (add-one g.shape.cells);
      members = lists-long (cell_of g) g.shape.cells g.n row-celled;
      subs = length-join (cell_centers g) _ (subs-begin g) g.shape.cells;
      codes = length-grid (celled_code g) g.n g.shape.plain.nsub;
      work = long;
    };
    order = filled-order (trained_index g) (cell_of g) row-celled refl refl code_below;
  }

-- ---- a training that succeeds

-- only the end of all steps says Ok
module _ (i : TrainIn) (used : ℕ) where
  ended-done : (t : Trained) → (ended t (train_done i) (train_zero i)).answer ≡ Ok used → (ended t (train_done i) (train_zero i)).index ≡ trained_index (given_of i)
  ended-done (Ok u) e = refl
  ended-done (Err u) e = cc

  tests-done : (train_outcome i).answer ≡ Ok used → (train_refusal i ≡ Ok tt) × ((train_ended i).answer ≡ Ok used)
  unfolding train_outcome
  tests-done = unless_done (λ (o : TrainOut). o.answer ≡ Ok used) (train_refusal i) (train_ended i) (train_unchanged i) (λ r h. cc)

  index-made : (train_outcome i).answer ≡ Ok used → (train_outcome i).index ≡ trained_index (given_of i)
  unfolding train_outcome
  index-made e =
      let t = tests-done e in
      rw t.0 (ended-done (reached_cell (given_of i) i.index.shape.cells) t.1)

  -- The whole check accepts what it made, whatever work of the right length it is lent.
  pub trained-accepted : (train_outcome i).answer ≡ Ok used → (work : List ℕ) → length work ≡ i.index.n + 1024
      → (check_outcome (check_in (train_outcome i).index work)).answer ≡ Ok tt
  unfolding train_refusal
  trained-accepted e work long =
      let passed = train-passed _ _ _ _ _ (tests-done e).0 in
      rw (index-made e)
      ((accepts-exact (check_in (trained_index (given_of i)) work)).1
      (made-acceptable (given_of i) (or_l (bad_celled i.index.shape) (bad_epochs i.epochs) passed.good) work passed.rows_few long))

  pub trained-passes : (train_outcome i).answer ≡ Ok used → Passes (train_outcome i).index
  trained-passes e = record {
    work = fill {A = ℕ} 0 (i.index.n + 1024);
    accepted = trained-accepted e (fill {A = ℕ} 0 (i.index.n + 1024)) (length-tab (λ (j : ℕ). 0) (i.index.n + 1024));
  }

  -- In a search of it, whatever number of its cells is probed, no row comes twice.
  pub trained-no-row-twice : (train_outcome i).answer ≡ Ok used → (j : SearchIn) → j.asked.index ≡ probing (train_outcome i).index j.asked.index.shape.probes
      → 1 ≤ j.asked.index.shape.probes → j.asked.index.shape.probes ≤ (train_outcome i).index.shape.cells → NoRowTwice (search_outcome j)
  trained-no-row-twice e j same least most =
      no-row-twice j (subst Passes (sym same) (passes-probing (train_outcome i).index j.asked.index.shape.probes least most (trained-passes e)))
