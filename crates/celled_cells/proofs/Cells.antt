-- Laws on the cells of a celled training: each cell's list, centre and stretch in the lent slices are the definition's, and one more cell.
use Prim.Native.Nat.{ℕ, zero, suc, ◌+◌, ◌-◌, ◌*◌, ◌≤◌, ◌<◌}
use mathlib.Core.Path.{◌≡◌, refl, sym, ◌∙◌, ap, subst, fun_ext}
use mathlib.Core.List.{List}
use native.Mathlib.Nat.{zero-mul, suc-mul}
use native.Mathlib.Numerals.{add-one}
use native.Mathlib.Decide.{dec_le, ℕ_discrete}
use native.Mathlib.Omega.{arith}
use borrow.Author.Tests.{ne_eqb}
use lib.ListN.{length, get_or, drop, length-drop}
use lib.Seq.{get_or-drop}
use lib.Ieee.{Float, nan, binary32, sub}
use Rattle.std.specs.Prelude.{Some, Ok, Err}
use Rattle.lists.specs.Lists.{Part, fill}
use Rattle.lists.proofs.Tables.{length-tab}
use Rattle.lists.proofs.Joins.{Begins, within, length-join}
use Rattle.metrics.specs.Distance.{value_of, coordinate, zero32}
use Rattle.answers.specs.Answers.{Trained, go_on}
use Rattle.pq_params.specs.Lengths.{subs_long}
use Rattle.kmeans_assign.proofs.Choosing.{nearest-lt}
use Rattle.kmeans.proofs.Reached.{train-sized}
use Rattle.pq_train.specs.Training.{Listed, centers_at, answer_of, sub_centers}
use Rattle.pq_train.specs.Inner.{stretch_at, values_in, ListOut, list_out, list_outcome}
use Rattle.pq_train.proofs.Laws.{Refusal, centers-begin}
use Rattle.celled_lists.specs.Lists.{ListHeld as Has, start_of}
use Rattle.celled_lists.proofs.CellLists.{list-row}
use Rattle.celled_lists.proofs.Filled.{members-long, list-within, list-lies, list-taken}
use Rattle.celled_cells.specs.Training.{Given, row_of, coarse_task, coarse_centers, cell_of, list_of, cell_rows, cell_answer, reached_cell, trained_cell, cell_centers}
use Rattle.celled_cells.specs.CellsInner.{CellsHeld, ListHeld, CellTrained}

-- a list of cell c as it is trained, with the values v
abbrev pub row_values : Given → ℕ → List ℕ → (ℕ → ℕ → Float) → ℕ → Listed
row_values i c list v used = record { shape = i.shape.plain; epochs = i.epochs; draws = i.draws; cell = c; n = length list; value = v; used = used }

some : (n : ℕ) → (n ≡ 0 → ⊥) → 0 < n
some zero z = absurd (z refl)
some (suc n) z = omega arith

-- ---- the slices

module _ {i : Given} {coarse : List Float} {starts members : List ℕ} (h : CellsHeld i coarse starts members) where
  -- each row has a cell
  pub celled : (m : ℕ) → m < i.n → cell_of i m < i.shape.cells
  celled m k = nearest-lt _ i.shape.cells h.held.some-cell

  -- there are few members
  pub members-many : length members ≡ i.n
  members-many = members-long celled h.cells.started h.cells.listed

  pub coarse-long : length coarse ≡ i.shape.cells * i.shape.plain.d
  coarse-long = ap length h.cells.centered ∙ train-sized (coarse_task i) 0

  -- a list has no more rows than there are
  list-few : (c : ℕ) → c < i.shape.cells → length (list_of i c) ≤ i.n
  list-few c below = omega (arith, list-within celled h.cells.started h.cells.listed c below, members-many)

  module _ (c : ℕ) (below : c < i.shape.cells) where
    -- it has a list, which is the definition's
    pub list_inside : Has starts members c
    list_inside = list-lies celled h.cells.started h.cells.listed c below

    pub list-given : (l : List ℕ) → Part members (start_of starts c) (start_of starts (suc c) - start_of starts c) l → l ≡ list_of i c
    list-given l p = list-taken celled h.cells.started h.cells.listed c l below p

    pub center-within : c * i.shape.plain.d + i.shape.plain.d ≤ length coarse
    center-within = omega (arith, within c i.shape.cells i.shape.plain.d below, coarse-long)

    -- a list that has rows is held
    pub list_held : (list : List ℕ) → list ≡ list_of i c → (length list ≡ 0 → ⊥) → ListHeld i c (drop (c * i.shape.plain.d) coarse) list
    list_held list e z = record {
      held = h.held;
      coarse-is = ap (drop (c * i.shape.plain.d)) h.cells.centered;
      list-is = e;
      some-listed = some (length list) z;
      listed_le = rw e (list-few c below);
      center-held = omega (arith, center-within, length-drop (c * i.shape.plain.d) coarse);
      row-held = rw e (λ k q. omega (arith, within (get_or (list_of i c) k 0) i.n i.shape.plain.d (list-row (cell_of i) i.n c k q).0, h.held.rows_long));
    }

-- ---- the training of a list

-- what is trained is the definition's list
module _ {i : Given} {c : ℕ} {coarse : List Float} {list : List ℕ} (h : ListHeld i c coarse list) where
  center-is : (j : ℕ) → get_or coarse j nan ≡ coordinate (coarse_centers i) i.shape.plain.d c j
  center-is j = rw h.coarse-is (get_or-drop (c * i.shape.plain.d) (coarse_centers i) j nan)

  pub list-rows : (used : ℕ) → row_values i c list (values_in i.shape.plain.d i.rows (Some list) (Some coarse)) used ≡ cell_rows i c used
  unfolding value_of
  list-rows used =
      rw h.list-is (ap (λ (v : ℕ → ℕ → Float). row_values i c (list_of i c) v used)
      (fun_ext (λ k. fun_ext (λ j. ap (λ (x : Float). sub binary32 (row_of i (get_or (list_of i c) k 0) j) x) (center-is j)))))

-- ---- one more cell

-- an empty cell uses no draws and has zero sub-centres
pub empty-cell : (i : Given) (c used : ℕ) (subs : List Float) → reached_cell i c ≡ Ok used → length (list_of i c) ≡ 0 → subs ≡ fill zero32 (subs_long i.shape.plain)
    → CellTrained i c (Ok used) subs
unfolding reached_cell cell_centers
empty-cell i c used subs e z f = record { said = sym (rw (add-one, e, z)); made = λ u g. f ∙ sym (rw z) }

-- any other is trained as its list
module _ (i : Given) (c used : ℕ) (e : reached_cell i c ≡ Ok used) (z : length (list_of i c) ≡ 0 → ⊥) where
  some-reached : answer_of (cell_rows i c used) ≡ reached_cell i (c + 1)
  unfolding reached_cell
  some-reached = sym (rw (add-one, e, ne_eqb (length (list_of i c)) 0 z))

  some-centers : sub_centers (cell_rows i c used) ≡ cell_centers i c
  unfolding cell_centers
  some-centers = sym (rw (ne_eqb (length (list_of i c)) 0 z, e))

  pub list-cell : (long : ℕ) (t : Trained) (subs : List Float) (assigned : List ℕ) → list_out t subs assigned ≡ list_outcome (cell_rows i c used) long → CellTrained i c t subs
  unfolding list_outcome
  list-cell long t subs assigned g = record {
    said = ap (λ (o : ListOut). o.answer) g ∙ some-reached;
    made = λ u f. rw (sym (ap (λ (o : ListOut). o.answer) g) ∙ f) at (ap (λ (o : ListOut). o.subs) g) ∙ some-centers;
  }

-- ---- all cells

-- the sub-centres of every cell are equally long
subs-long : (u : Listed) → length (sub_centers u) ≡ subs_long u.shape
unfolding sub_centers
subs-long u = length-join (centers_at u) (stretch_at u.shape) (centers-begin u) u.shape.nsub

pub centers-long : (i : Given) (c : ℕ) → length (cell_centers i c) ≡ subs_long i.shape.plain
unfolding cell_centers
centers-long i c = elim (ℕ_discrete (length (list_of i c)) 0) [
  | yes z ↦ rw z (length-tab _ _)
  | no z ↦ rw (ne_eqb (length (list_of i c)) 0 z) (subs-long (trained_cell i c))
]

pub centers-evenly : (i : Given) (long : ℕ) → long ≡ subs_long i.shape.plain → Begins (cell_centers i) (λ (c : ℕ). c * long)
centers-evenly i long e = record { first = zero-mul long; next = λ c. suc-mul c long ∙ ap (λ (x : ℕ). c * long + x) (e ∙ sym (centers-long i c)) }

-- a refusal stays
stays : (t : Trained) (next : ℕ → Trained) → Refusal t → go_on t next ≡ t
stays (Ok used) next r = absurd r
stays (Err u) next r = refl

pub cells-refused : (i : Given) (c n : ℕ) → c ≤ n → Refusal (reached_cell i c) → reached_cell i c ≡ reached_cell i n
unfolding reached_cell
cells-refused i c zero k r = let e : c ≡ 0 = omega arith in rw e
cells-refused i c (suc n) k r = elim (dec_le c n) [
  | yes q ↦ let e = cells-refused i c n q r in e ∙ sym (stays (reached_cell i n) (cell_answer i n) (subst Refusal e r))
  | no q ↦ let e : c ≡ suc n = omega arith in rw e
]
