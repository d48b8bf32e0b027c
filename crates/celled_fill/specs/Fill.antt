-- Filling against given centres: the cell of each row, the lists of the cells, and the codes of each row, by the assignment rule.
use Rattle.std.specs.Prelude.{ℕ, ◌*◌, List, Float}
use Rattle.std.specs.Float.{binary32}
use Rattle.std.specs.Float.Ieee.{sub}
use Rattle.lists.specs.Lists.{part, grid}
use Rattle.metrics.specs.Distance.{coordinate}
use Rattle.pq_params.specs.declared.Shape.{Shape}
use Rattle.pq_params.specs.declared.CelledShape.{CelledShape}
use Rattle.pq_params.specs.Bounds.{centers_of}
use Rattle.pq_params.specs.Ranges.{width_of, on_range}
use Rattle.pq_params.specs.Lengths.{subs_long}
use Rattle.kmeans_assign.specs.Assign.{chosen}
use Rattle.pq_train.specs.Training.{row_at}
use Rattle.pq_train.specs.Inner.{stretch_at, stretch_long}

-- ---- one row, with the values x at the D coordinates

-- its cell: the coarse centre that it is assigned to
abbrev pub cell_of : CelledShape → List Float → (ℕ → Float) → ℕ
cell_of s coarse x = chosen x coarse s.plain.d s.cells

-- x less the centre of cell c
abbrev pub less_center : ℕ → List Float → ℕ → (ℕ → Float) → ℕ → Float
less_center d coarse c x j = sub binary32 (x j) (coordinate coarse d c j)

-- the sub-centres of cell c
abbrev pub cell_subs : Shape → List Float → ℕ → List Float
cell_subs z subs c = part subs (c * subs_long z) (subs_long z)

-- the code, in sub-space s, of the values y against the sub-centres of one cell
abbrev pub code_among : Shape → List Float → (ℕ → Float) → ℕ → ℕ
code_among z subs y s =
    chosen (on_range z.d z.nsub s y) (part subs (stretch_at z s) (stretch_long z s)) (width_of z.d z.nsub s) (centers_of z.bits)

-- its code in sub-space k: less the centre of its cell, against the sub-centres of its cell
unfoldable pub code_of : CelledShape → List Float → List Float → (ℕ → Float) → ℕ → ℕ
code_of s coarse subs x k =
    let c = cell_of s coarse x in
    code_among s.plain (cell_subs s.plain subs c) (less_center s.plain.d coarse c x) k

-- ---- n rows

-- the cell of row m; starts and members are `filled_starts` and `filled_members` of these cells
abbrev pub cell_at : CelledShape → List Float → List Float → ℕ → ℕ
cell_at s coarse rows m = cell_of s coarse (row_at rows s.plain.d m)

-- the code of row m in sub-space k
abbrev pub filled_code : CelledShape → List Float → List Float → List Float → ℕ → ℕ → ℕ
filled_code s coarse subs rows m = code_of s coarse subs (row_at rows s.plain.d m)

abbrev pub filled_codes : CelledShape → List Float → List Float → List Float → ℕ → List ℕ
filled_codes s coarse subs rows n = grid (filled_code s coarse subs rows) n s.plain.nsub
