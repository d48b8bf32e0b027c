-- What the training of the cells asks of the slices that it is lent, and what its functions leave there.
use Rattle.std.specs.Prelude.{ℕ, ◌+◌, ◌*◌, ◌≤◌, ◌<◌, ◌≡◌, List, Ok, false, length, get_or, drop, Float}
use Rattle.lists.specs.Lists.{join, put_part}
use Rattle.answers.specs.Answers.{Trained}
use Rattle.pq_params.specs.Bounds.{bad_plain}
use Rattle.pq_params.specs.Lengths.{subs_long}
use Rattle.kmeans_split.specs.Split.{NotNegative}
use Rattle.celled_lists.specs.Cells.{filled_starts, filled_members}
use Rattle.celled_cells.specs.declared.Celled.{Celled}
use Rattle.celled_cells.specs.Training.{Given, coarse_answer, coarse_centers, cell_of, list_of, reached_cell, cell_centers}

abbrev pub given_by : Celled → Given
given_by l = record { shape = l.shape; epochs = l.epochs; n = l.n; rows = l.rows.now; draws = l.draws.now }

-- the numbers are within their bounds, and rows and draws are as they say
pub record Held (i : Given) : Type 0 where
  pub good : bad_plain i.shape.plain ≡ false
  pub some-cell : 0 < i.shape.cells
  pub cells-le : i.shape.cells ≤ 1024
  pub few-epochs : i.epochs ≤ 1000
  pub some-row : 0 < i.n
  pub rows-le : i.n ≤ 100_001
  pub rows_long : length i.rows ≡ i.n * i.shape.plain.d
  pub in-range : NotNegative i.draws

-- the coarse centres and the lists are those of the definition
pub record Cells (i : Given) (coarse : List Float) (starts members : List ℕ) : Type 0 where
  pub centered : coarse ≡ coarse_centers i
  pub started : starts ≡ filled_starts (cell_of i) i.n i.shape.cells
  pub listed : members ≡ filled_members (cell_of i) i.n i.shape.cells

-- ---- one cell, and all

-- the steps so far
pub record CellsHeld (i : Given) (coarse : List Float) (starts members : List ℕ) : Type 0 where
  pub held : Held i
  pub cells : Cells i coarse starts members

-- a cell that has rows: its list is the definition's, each row is held, and the coarse centres from its own on go at least to its end
pub record ListHeld (i : Given) (c : ℕ) (coarse : List Float) (list : List ℕ) : Type 0 where
  pub held : Held i
  pub coarse-is : coarse ≡ drop (c * i.shape.plain.d) (coarse_centers i)
  pub list-is : list ≡ list_of i c
  pub some-listed : 0 < length list
  pub listed_le : length list ≤ i.n
  pub center-held : i.shape.plain.d ≤ length coarse
  pub row-held : (k : ℕ) → k < length list → get_or list k 0 * i.shape.plain.d + i.shape.plain.d ≤ length i.rows

-- cell c is reached, and the slices lent for it are as long as it asks
pub record CellLent (i : Given) (c used : ℕ) (subs : List Float) (assigned : List ℕ) : Type 0 where
  pub below : c < i.shape.cells
  pub reached : reached_cell i c ≡ Ok used
  pub drawn : used ≤ length i.draws
  pub subs-long : length subs ≡ subs_long i.shape.plain
  pub assigned-long : length assigned ≡ i.n

-- what one cell leaves
pub record CellTrained (i : Given) (c : ℕ) (answer : Trained) (subs : List Float) : Type 0 where
  pub said : answer ≡ reached_cell i (c + 1)
  pub made : (used : ℕ) → answer ≡ Ok used → subs ≡ cell_centers i c

-- cell c is reached, and its stretch lies within all sub-centres
pub record CellAt (i : Given) (c long used : ℕ) (subs : List Float) (assigned : List ℕ) : Type 0 where
  pub below : c < i.shape.cells
  pub reached : reached_cell i c ≡ Ok used
  pub drawn : used ≤ length i.draws
  pub long-is : long ≡ subs_long i.shape.plain
  pub subs-long : length subs ≡ i.shape.cells * long
  pub assigned-long : length assigned ≡ i.n

-- what one cell leaves in all sub-centres
pub record CellPlaced (i : Given) (c long : ℕ) (subs : List Float) (answer : Trained) (subs' : List Float) : Type 0 where
  pub said : answer ≡ reached_cell i (c + 1)
  pub placed : (used : ℕ) → answer ≡ Ok used → subs' ≡ put_part subs (c * long) long (cell_centers i c)

-- the coarse k-means succeeded, and all sub-centres and the assignments are as long as the numbers say
pub record CellsLent (i : Given) (start : ℕ) (subs : List Float) (assigned : List ℕ) : Type 0 where
  pub began : coarse_answer i ≡ Ok start
  pub subs-long : length subs ≡ i.shape.cells * subs_long i.shape.plain
  pub assigned-long : length assigned ≡ i.n

-- what the cells leave, where none refuses
pub record CellsTrained (i : Given) (answer : Trained) (subs : List Float) : Type 0 where
  pub said : answer ≡ reached_cell i i.shape.cells
  pub made : (used : ℕ) → answer ≡ Ok used → subs ≡ join (cell_centers i) i.shape.cells
