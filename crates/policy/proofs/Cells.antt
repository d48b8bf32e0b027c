-- One cell, met with other rows and other codes: what the search does there is the same if the visible rows and their codes are.
use Prim.Native.Nat.{ℕ, ◌<◌}
use mathlib.Core.Path.{◌≡◌, refl, ap}
use mathlib.Core.Bool.{Bool, true, cond, ◌&&◌}
use mathlib.Core.List.{List}
use lib.ListN.{length, get_or}
use lib.Dec.{ltb}
use lib.Ieee.{Float}
use lib.Ieee.Scale.{finite}
use Rattle.lists.specs.Tests.{keep}
use Rattle.lists.proofs.Tables.{map-ext}
use Rattle.lists.proofs.Tests.{every-ext}
use Rattle.metrics.proofs.Laws.{sum-ext}
use Rattle.pq_params.specs.Bounds.{centers_of}
use Rattle.pq_params.specs.Codes.{code_at, codes_below}
use Rattle.cell_table.specs.Tables.{Cell, entry_at, table_finite}
use Rattle.cell_codes.specs.Codes.{visible_rows, codes_sound}
use Rattle.cell_sums.specs.Sums.{sum_at}
use Rattle.cell_walk.specs.Candidates.{nothing_shown, cell_finite, candidates}
use Rattle.policy.specs.Check.{StandsIn}
use Rattle.policy.proofs.Standing.{keep-from}

-- the cell, with other codes and rows
abbrev pub met : Cell → List ℕ → List ℕ → Cell
met c codes rows = record {
  shape = c.shape;
  query = c.query;
  subs = c.subs;
  cell = c.cell;
  shown = c.shown;
  codes = codes;
  rows = rows;
}

-- its i-th visible row
abbrev pub shown_at : Cell → ℕ → ℕ
shown_at c i = get_or (visible_rows c) i 0

-- it is one of its rows, and is shown
pub shown-stands : (c : Cell) (i : ℕ) → i < length (visible_rows c) → StandsIn c.rows (shown_at c i) × (c.shown (shown_at c i) ≡ true)
shown-stands c i h = keep-from c.shown c.rows (shown_at c i) (i, record { within = h; held = refl })

-- the codes of the visible rows are equal
abbrev pub ShownAlike : Cell → List ℕ → Type 0
ShownAlike c codes =
    (i s : ℕ) → i < length (visible_rows c) → s < c.shape.nsub → code_at c.codes c.shape.nsub (shown_at c i) s ≡ code_at codes c.shape.nsub (shown_at c i) s

module _ (c : Cell) (codes rows : List ℕ) (same : visible_rows c ≡ keep c.shown rows) (alike : ShownAlike c codes) where
  pub same-sound : codes_sound c ≡ codes_sound (met c codes rows)
  same-sound =
      rw (← same)
      (every-ext (λ (i : ℕ). codes_below c.codes c.shape (shown_at c i)) _ (length (visible_rows c))
      (λ i h. every-ext _ _ c.shape.nsub (λ s k. ap (λ (x : ℕ). ltb x (centers_of c.shape.bits)) (alike i s h k))))

  same_sum : (i : ℕ) → i < length (visible_rows c) → sum_at c (shown_at c i) ≡ sum_at (met c codes rows) (shown_at c i)
  same_sum i h = sum-ext _ _ c.shape.nsub (λ s k. ap (entry_at c s) (alike i s h k))

  pub same-finite : cell_finite c ≡ cell_finite (met c codes rows)
  unfolding cell_finite
  same-finite =
      rw (← same)
      (ap (λ (t : Bool). cond (nothing_shown c) true (table_finite c && t))
      (every-ext _ _ (length (visible_rows c)) (λ i h. ap finite (same_sum i h))))

  pub same-candidates : candidates c ≡ candidates (met c codes rows)
  unfolding candidates
  same-candidates =
      rw (← same)
      (map-ext 0 _ _ (visible_rows c) (λ i h. ap (λ (t : Float). record { sum = t; row = shown_at c i }) (same_sum i h)))
