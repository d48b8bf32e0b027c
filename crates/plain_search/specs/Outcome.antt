-- Plain search: for any input, the answer and every lent buffer afterwards.
use Rattle.std.specs.Prelude.{ℕ, List, [], ◌∷◌, Bool, cond, not, Float}
use Rattle.answers.specs.declared.Refusal.TheVariants.{Damaged, DistanceNotFinite}
use Rattle.answers.specs.Answers.{Checked, unless}
use Rattle.lists.specs.Lists.{tab}
use Rattle.lists.specs.Tests.{any_of}
use Rattle.metrics.specs.Distance.{coordinate_in}
use Rattle.pq_params.specs.declared.Shape.{Shape}
use Rattle.pq_params.specs.declared.PlainLengths.{PlainLengths}
use Rattle.pq_params.specs.Bounds.{bad_plain}
use Rattle.pq_params.specs.Lengths.{plain_of}
use Rattle.pq_params.specs.Refusals.{not_long, search_tests}
use Rattle.cell_table.specs.Tables.{Cell}
use Rattle.cell_codes.specs.Codes.{visible, codes_sound}
use Rattle.cell_walk.specs.Candidates.{cell_finite, candidates}
use Rattle.cell_walk.specs.Results.{Lent, SearchOut, asked_of, unchanged, blank, answered}

pub record SearchIn : Type 0 where
  pub shape : Shape
  pub n : ℕ
  pub query : List Float
  pub mask : List ℕ
  pub subs : List Float
  pub codes : List ℕ
  pub lent : Lent

-- what a promise builds of the inputs
abbrev pub search_in : Shape → ℕ → List Float → List ℕ → List Float → List ℕ → Lent → SearchIn
search_in shape n query mask subs codes l =
    record { shape = shape; n = n; query = query; mask = mask; subs = subs; codes = codes; lent = l }

-- 4: a buffer not of its length
abbrev pub search_lengths : PlainLengths → SearchIn → List Bool
search_lengths l i =
    not_long i.query i.shape.d
    ∷ not_long i.mask i.n
    ∷ not_long i.subs l.subs
    ∷ not_long i.codes l.codes
    ∷ not_long i.lent.sums (asked_of i.lent)
    ∷ not_long i.lent.table l.table
    ∷ []

-- tests 1, 3, 4, 5, 6
unfoldable pub search_refusal : SearchIn → Checked
search_refusal i =
    search_tests (bad_plain i.shape) i.n (any_of (search_lengths (plain_of i.shape i.n) i)) (asked_of i.lent) i.query

-- The plain index has one cell: all rows, and the query as it is.
abbrev pub whole_cell : SearchIn → Cell
whole_cell i = record {
  shape = i.shape;
  query = coordinate_in i.query;
  subs = i.subs;
  cell = 0;
  shown = visible i.mask;
  codes = i.codes;
  rows = tab (λ (m : ℕ). m) i.n;
}

-- Refused for damage of a visible row's codes, then for a table entry or a sum that is not finite.
unfoldable pub search_worked : Cell → Lent → SearchOut
search_worked c l =
    cond (not (codes_sound c)) (blank l Damaged)
    (cond (not (cell_finite c)) (blank l DistanceNotFinite) (answered l (candidates c)))

unfoldable pub search_outcome : SearchIn → SearchOut
search_outcome i = unless (search_refusal i) (search_worked (whole_cell i) i.lent) (unchanged i.lent)
