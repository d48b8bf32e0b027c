-- The rows of one cell: which are visible, and step 3's test of their codes.
use Rattle.std.specs.Prelude.{ℕ, ◌+◌, ◌*◌, List, Option, Bool, not, get_or, length, eqb, ltb, option_copied}
use Rattle.lists.specs.Lists.{tab, member_of}
use Rattle.lists.specs.Tests.{every, keep}
use Rattle.pq_params.specs.declared.Shape.{Shape}
use Rattle.pq_params.specs.Bounds.{centers_of}
use Rattle.cell_table.specs.declared.CellView.{CellView}
use Rattle.cell_table.specs.Tables.{Cell, query_of}

-- a cell's rows, n numbers as they stand in its list; the plain index's one cell has all rows
abbrev pub rows_of : Option (List ℕ) → ℕ → List ℕ
rows_of members n = tab (member_of members) n

-- the i-th row of the cell that a search meets, and all of them
abbrev pub row_at : CellView → ℕ → ℕ
row_at z = member_of (option_copied z.members)

abbrev pub rows_in : CellView → List ℕ
rows_in z = rows_of (option_copied z.members) z.n

-- a row mask: nonzero means visible
abbrev pub visible : List ℕ → ℕ → Bool
visible mask m = not (eqb (get_or mask m 0) 0)

-- the cell that a search meets
abbrev pub cell_of : CellView → Cell
cell_of z = record {
  shape = z.shape;
  query = query_of z;
  subs = z.subs.now;
  cell = z.cell;
  shown = visible z.mask.now;
  codes = z.codes.now;
  rows = rows_in z;
}

abbrev pub visible_rows : Cell → List ℕ
visible_rows c = keep c.shown c.rows

-- the code of row m in sub-space s
abbrev pub code_at : List ℕ → ℕ → ℕ → ℕ → ℕ
code_at codes nsub m s = get_or codes (m * nsub + s) 0

-- whether the codes of row m are below K
abbrev pub codes_below : List ℕ → Shape → ℕ → Bool
codes_below codes z m = every (λ (s : ℕ). ltb (code_at codes z.nsub m s) (centers_of z.bits)) z.nsub

-- whether f holds of every row of a list
abbrev pub of_all : (ℕ → Bool) → List ℕ → Bool
of_all f rows = every (λ (i : ℕ). f (get_or rows i 0)) (length rows)

-- 3. visible rows' codes below K
abbrev pub rows_sound : Shape → (ℕ → Bool) → List ℕ → List ℕ → Bool
rows_sound z shown codes rows = of_all (codes_below codes z) (keep shown rows)

abbrev pub codes_sound : Cell → Bool
codes_sound c = rows_sound c.shape c.shown c.codes c.rows
