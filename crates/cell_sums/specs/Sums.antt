-- Step 5 in one cell: the sums of its visible rows.
use Rattle.std.specs.Prelude.{ℕ, Bool, Float}
use Rattle.std.specs.Float.Ieee.Scale.{finite}
use Rattle.metrics.specs.Distance.{sum_to}
use Rattle.cell_table.specs.Tables.{Cell, entry_at}
use Rattle.cell_codes.specs.Codes.{visible_rows, code_at, of_all}

-- a visible row's sum adds its n_sub entries from +0.0 in sub-space order
abbrev pub sum_at : Cell → ℕ → Float
sum_at c m = sum_to (λ (s : ℕ). entry_at c s (code_at c.codes c.shape.nsub m s)) c.shape.nsub

abbrev pub sums_finite : Cell → Bool
sums_finite c = of_all (λ (m : ℕ). finite (sum_at c m)) (visible_rows c)
