-- What the search in one cell promises to a search that goes from cell to cell: it begins with results that hold earlier candidates.
use Rattle.std.specs.Prelude.{ℕ, ◌≡◌, List, ◌++◌, map, true, cond, length, take, drop, Float}
use Rattle.answers.specs.declared.Refusal.TheVariants.{DistanceNotFinite}
use Rattle.lists.specs.Lists.{grid}
use Rattle.neighbor.specs.declared.Candidate.{Candidate}
use Rattle.neighbor.specs.Neighbor.{comes_before, insert_all, row_of, sum_of}
use Rattle.neighbor.specs.Held.{held}
use Rattle.pq_params.specs.Bounds.{centers_of}
use Rattle.cell_table.specs.declared.CellView.{CellView}
use Rattle.cell_table.specs.Tables.{Cell, entry_at}
use Rattle.cell_table.specs.TablesInner.{Tabling}
use Rattle.cell_codes.specs.Codes.{codes_sound, cell_of}
use Rattle.cell_codes.specs.CodesInner.{Rows}
use Rattle.cell_walk.specs.Candidates.{nothing_shown, cell_finite, candidates}
use Rattle.cell_walk.specs.Results.{Lent, SearchOut, asked_of, answer_of, said_done, blank}

-- what the search in a cell counts on: all that it reads is there, and its visible rows' codes are sound
pub record Searching (z : CellView) (table : List Float) : Type 0 where
  pub table_of : Tabling z table
  pub rows-of : Rows z
  pub sound : codes_sound (cell_of z) ≡ true

-- those that stay: of those held and the cell's candidates, the first k in order
abbrev pub kept_of : Cell → Lent → ℕ → List Candidate
kept_of c l found = take (asked_of l) (insert_all comes_before (held l.rows l.sums found) (candidates c))

-- the table of a cell; without a visible row none is worked
abbrev pub table_after : Cell → List Float → List Float
table_after c table = cond (nothing_shown c) table (grid (entry_at c) c.shape.nsub (centers_of c.shape.bits))

-- the places past those that stay are as they were
abbrev pub cell_done : Cell → Lent → List Candidate → SearchOut
cell_done c l kept = record {
  answer = answer_of (length kept) (length (candidates c));
  said = said_done (length kept) (length (candidates c));
  rows = map row_of kept ++ drop (length kept) l.rows;
  sums = map sum_of kept ++ drop (length kept) l.sums;
  table = table_after c l.table;
}

-- refused, results blank and table zero, where a table entry or a visible row's sum is not finite
unfoldable pub cell_outcome : Cell → Lent → ℕ → SearchOut
cell_outcome c l found = cond (cell_finite c) (cell_done c l (kept_of c l found)) (blank l DistanceNotFinite)
