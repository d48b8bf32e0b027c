-- What the search in the one cell leaves, with the results blank before it and the table zero after it.
use Rattle.std.proofs.Common.{◌≡◌, ℕ, Bool, true, false, List, [], length, refl, ◌∙◌, ap, arith}
use Rattle.std.specs.Prelude.{Err, Float}
use Rattle.answers.specs.declared.Refusal.TheVariants.{Damaged}
use Rattle.answers.specs.Answers.{Searched}
use Rattle.lists.specs.Lists.{fill}
use Rattle.metrics.specs.Distance.{zero32}
use Rattle.neighbor.specs.Neighbor.{result_rows, result_sums}
use Rattle.cell_table.specs.Tables.{Cell}
use Rattle.cell_codes.specs.Codes.{codes_sound}
use Rattle.cell_walk.specs.Candidates.{cell_finite}
use Rattle.cell_walk.specs.Results.{Lent, lent, search_out, asked_of}
use Rattle.cell_walk.specs.CellInner.{cell_outcome}
use Rattle.cell_walk.proofs.Cells.{length-rows, holding-none, holding-next, cell-refused}
use Rattle.plain_search.specs.Outcome.{search_worked}

module _ (c : Cell) (l : Lent) where
  -- damage
  pub worked-damaged : (rows : List ℕ) (sums table : List Float) → codes_sound c ≡ false
      → rows ≡ result_rows (asked_of l) [] → sums ≡ result_sums (asked_of l) [] → table ≡ fill zero32 (length l.table)
      → search_out (Err Damaged) rows sums table ≡ search_worked c l
  unfolding search_worked
  worked-damaged rows sums table s p q z = rw (s, p, q, z)

  -- all else
  pub worked-cell : (rows : List ℕ) (sums table : List Float) (r : Searched) (rows' : List ℕ) (sums' table' zeros : List Float) → codes_sound c ≡ true
      → rows ≡ result_rows (asked_of l) [] → sums ≡ result_sums (asked_of l) [] → zeros ≡ fill zero32 (length l.table)
      → search_out r rows' sums' table' ≡ cell_outcome c (lent rows sums table) 0
      → search_out r rows' sums' zeros ≡ search_worked c l
  unfolding search_worked
  worked-cell rows sums table r rows' sums' table' zeros s p q z e = go (cell_finite c) refl
    where
      go : (b : Bool) → cell_finite c ≡ b → search_out r rows' sums' zeros ≡ search_worked c l
      go true f =
          let n = holding-next (asked_of l) [] c rows sums table 0 r rows' sums' table' (holding-none (asked_of l) rows sums p q) f e in
          rw (s, f, n.answer, n.holds.rows_are, n.holds.sums-are, z)
      go false f =
          let n = cell-refused c (lent rows sums table) 0 r rows' sums' table' f e in
          let k : asked_of (lent rows sums table) ≡ asked_of l = ap length p ∙ length-rows (asked_of l) [] (omega arith) in
          rw (s, f, n.0, n.1, n.2, k, z)
