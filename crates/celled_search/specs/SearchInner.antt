-- What the second step and those after it count on.
use Rattle.std.specs.Prelude.{ℕ, ◌≡◌, List, true, length, Float}
use Rattle.pq_params.specs.Lengths.{table_long}
use Rattle.probed_cells.specs.Search.{Asked, starts_good}
use Rattle.probed_cells.specs.ProbedInner.{Ready}

-- the starts are sound, and there is a place for each cell to probe
pub record Stepping (a : Asked) (places : List ℕ) (table : List Float) : Type 0 where
  pub ready : Ready a
  pub starts-good : starts_good a ≡ true
  pub places-long : length places ≡ a.index.shape.probes
  pub table-long : length table ≡ table_long a.index.shape.plain
