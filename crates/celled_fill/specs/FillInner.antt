-- What the functions of filling ask of the slices that they are lent, and what they leave there.
use Rattle.std.specs.Prelude.{ℕ, zero, suc, ◌+◌, ◌*◌, ◌≤◌, ◌<◌, ◌≡◌, List, Some, IfSome, option_copied, false, length, get_or, Float}
use Rattle.lists.specs.Lists.{part, put_part, tab, fill}
use Rattle.pq_params.specs.declared.Shape.{Shape}
use Rattle.pq_params.specs.declared.CelledShape.{CelledShape}
use Rattle.pq_params.specs.Bounds.{bad_plain}
use Rattle.pq_params.specs.Lengths.{subs_long}
use Rattle.kmeans_assign.specs.declared.Frame.{Frame}
use Rattle.pq_train.specs.declared.RowList.{RowList}
use Rattle.pq_train.specs.Inner.{row_in, code_by}
use Rattle.celled_lists.specs.Cells.{cell_list, filled_starts, filled_members}
use Rattle.celled_fill.specs.Fill.{cell_at, cell_subs}

-- ---- the cells

-- the frame of the coarse centres: all rows, all coordinates
abbrev pub coarse_frame : CelledShape → ℕ → Frame
coarse_frame s n = record { d = s.plain.d; begin = 0; w = s.plain.d; n = n; centers = s.cells }

-- the numbers are within their bounds, and rows and coarse centres are as long as they say
pub record Rows (s : CelledShape) (n : ℕ) (rows coarse : List Float) : Type 0 where
  pub good : bad_plain s.plain ≡ false
  pub some-cell : 0 < s.cells
  pub cells-le : s.cells ≤ 1024
  pub some-row : 0 < n
  pub rows-le : n ≤ 100_001
  pub rows_long : length rows ≡ n * s.plain.d
  pub coarse-long : length coarse ≡ s.cells * s.plain.d

-- the buffers of the lists, and work, are of their lengths
pub record Lent (s : CelledShape) (n : ℕ) (starts members work : List ℕ) : Type 0 where
  pub starts-long : length starts ≡ s.cells + 1
  pub members-long : length members ≡ n
  pub work-long : length work ≡ n + 1024

-- starts and members are the lists of the rows' cells
pub record Lists (s : CelledShape) (n : ℕ) (rows coarse : List Float) (starts members : List ℕ) : Type 0 where
  pub started : starts ≡ filled_starts (cell_at s coarse rows) n s.cells
  pub listed : members ≡ filled_members (cell_at s coarse rows) n s.cells

-- what filling the lists leaves
pub record Filled (s : CelledShape) (n : ℕ) (rows coarse : List Float) (work starts' members' work' : List ℕ) : Type 0 where
  pub lists : Lists s n rows coarse starts' members'
  pub cleared : work' ≡ fill 0 (length work)

-- ---- the codes

-- the codes, with those of the first k rows of a list put in
unfoldable pub coded_to : (ℕ → ℕ → ℕ) → ℕ → List ℕ → ℕ → List ℕ → List ℕ
coded_to code nsub list zero codes = codes
coded_to code nsub list (suc k) codes =
    let m = get_or list k 0 in
    put_part (coded_to code nsub list k codes) (m * nsub) nsub (tab (code m) nsub)

-- the code of row m less `center`, against the sub-centres of one cell
abbrev pub row_code : Shape → List Float → List Float → List Float → ℕ → ℕ → ℕ
row_code z rows center subs m = code_by z (row_in z rows m) (Some center) subs

-- the code of row m less the centre of its list, if any
abbrev pub code_listed : RowList → List Float → ℕ → ℕ → ℕ
code_listed l subs m = code_by l.shape (row_in l.shape l.rows.now m) (option_copied l.center) subs

-- the codes of the rows of cell c
abbrev pub cell_code : CelledShape → List Float → List Float → List Float → ℕ → ℕ → ℕ → ℕ
cell_code s rows coarse subs c = row_code s.plain rows (part coarse (c * s.plain.d) s.plain.d) (cell_subs s.plain subs c)

abbrev pub coded_cell : CelledShape → ℕ → ℕ → List Float → List Float → List Float → List ℕ → List ℕ
coded_cell s n c rows coarse subs codes =
    let list = cell_list (cell_at s coarse rows) n c in
    coded_to (cell_code s rows coarse subs c) s.plain.nsub list (length list) codes

-- each listed row is one of the rows and has a place among the codes
pub record Listed (l : RowList) (list : List ℕ) (subs : List Float) (codes : List ℕ) : Type 0 where
  pub good : bad_plain l.shape ≡ false
  pub row-held : (k : ℕ) → k < length list → get_or list k 0 * l.shape.d + l.shape.d ≤ length l.rows.now
  pub code-held : (k : ℕ) → k < length list → get_or list k 0 * l.shape.nsub + l.shape.nsub ≤ length codes
  pub center-long : IfSome (option_copied l.center) (λ c. l.shape.d ≤ length c)
  pub subs-long : length subs ≡ subs_long l.shape

-- the lists are those of the rows' cells, and sub-centres and codes are of their lengths
pub record Coding (s : CelledShape) (rows coarse : List Float) (starts members : List ℕ) (subs : List Float) (codes : List ℕ)
    : Type 0 where
  pub held : Rows s (length members) rows coarse
  pub filled : Lists s (length members) rows coarse starts members
  pub subs-long : length subs ≡ s.cells * subs_long s.plain
  pub codes-long : length codes ≡ length members * s.plain.nsub
