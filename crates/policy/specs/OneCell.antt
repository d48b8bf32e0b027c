-- A plain index as a celled one: one cell, whose coarse centre is zero, with all rows.
use Rattle.std.specs.Prelude.{ℕ, ◌<◌, List, [], ◌∷◌, length, get_or, T, Float}
use Rattle.std.specs.Float.{nan, binary32}
use Rattle.std.specs.Float.Ieee.{fits}
use Rattle.lists.specs.Lists.{tab, fill}
use Rattle.metrics.specs.Distance.{zero32, coordinate_in, squared}
use Rattle.celled_lists.specs.Index.{Index}
use Rattle.plain_search.specs.Outcome.{SearchIn}
use Rattle.celled_search.specs.Outcome as Celled

abbrev pub one_cell : SearchIn → Index
one_cell i = record {
  shape = record { plain = i.shape; cells = 1; probes = 1 };
  n = i.n;
  coarse = fill zero32 i.shape.d;
  starts = 0 ∷ i.n ∷ [];
  members = tab (λ (m : ℕ). m) i.n;
  subs = i.subs;
  codes = i.codes;
}

-- the same query, mask and lent buffers
abbrev pub in_one_cell : SearchIn → Celled.SearchIn
in_one_cell i = record { asked = record { index = one_cell i; query = i.query; mask = i.mask }; lent = i.lent }

-- the query's coarse distance: from zero, over all D coordinates
abbrev pub farness : SearchIn → Float
farness i = squared (coordinate_in i.query) (λ (j : ℕ). zero32) i.shape.d

-- each coordinate is an f32, as those of a lent slice are
abbrev pub EachF32 : List Float → Type 0
EachF32 l = (j : ℕ) → j < length l → T (fits binary32 (get_or l j nan))
