-- Steps 4 and 5 together in one cell: whether all that is worked there is finite, and the cell's candidates.
use Rattle.std.specs.Prelude.{ℕ, List, map, Bool, true, cond, ◌&&◌, length, eqb}
use Rattle.neighbor.specs.declared.Candidate.{Candidate}
use Rattle.cell_table.specs.Tables.{Cell, table_finite}
use Rattle.cell_codes.specs.Codes.{visible_rows}
use Rattle.cell_sums.specs.Sums.{sum_at, sums_finite}

-- a table is worked only in a cell with a visible row
abbrev pub nothing_shown : Cell → Bool
nothing_shown c = eqb (length (visible_rows c)) 0

unfoldable pub cell_finite : Cell → Bool
cell_finite c =
    let worked = table_finite c && sums_finite c in
    cond (nothing_shown c) true worked

-- the candidates, in list order
unfoldable pub candidates : Cell → List Candidate
candidates c = map (λ (m : ℕ). record { sum = sum_at c m; row = m }) (visible_rows c)
