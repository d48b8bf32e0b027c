-- The tests of a plain search, and the view of its one cell that the work goes over.
use Rattle.std.proofs.Common.{◌≡◌, ℕ, Bool, List, sym, ◌∙◌, ap, arith}
use Rattle.std.specs.Prelude.{None, Ok, Err, Float}
use Rattle.std.specs.Borrow.{Bor}
use native.Mathlib.Nat.{zero-mul}
use Rattle.answers.specs.declared.Refusal.{Refusal}
use Rattle.answers.specs.Answers.{Checked}
use Rattle.lists.specs.Tests.{any_of}
use Rattle.lists.proofs.Tests.{none}
use Rattle.metrics.specs.Distance.{value_of}
use Rattle.pq_params.specs.declared.Shape.{Shape}
use Rattle.pq_params.specs.declared.PlainLengths.{PlainLengths}
use Rattle.pq_params.specs.Bounds.{bad_plain}
use Rattle.pq_params.specs.Lengths.{subs_long, plain_of, plain_lengths}
use Rattle.pq_params.specs.Refusals.{search_tests}
use Rattle.pq_params.proofs.Refusing.{same-long, search-passed, search-agree, plain-long}
use Rattle.cell_table.specs.declared.CellView.{CellView}
use Rattle.cell_codes.specs.Codes.{cell_of}
use Rattle.cell_walk.specs.Results.{Lent, asked_of, unchanged}
use Rattle.plain_search.specs.Outcome.{SearchIn, search_in, search_lengths, search_refusal, search_worked, search_outcome}
use Rattle.plain_search.specs.SearchInner.{Ready}

-- the view of the one cell
abbrev pub whole : Shape → ℕ → Bor (List Float) → Bor (List ℕ) → Bor (List Float) → Bor (List ℕ) → CellView
whole s n query mask subs codes = record {
  shape = s;
  cell = 0;
  n = n;
  query = query;
  center = None;
  subs = subs;
  mask = mask;
  codes = codes;
  members = None;
}

module _ (s : Shape) (n : ℕ) (query : Bor (List Float)) (mask : Bor (List ℕ)) (subs : Bor (List Float)) (codes : Bor (List ℕ)) (l : Lent) where
  abbrev i : SearchIn
  i = search_in s n query.now mask.now subs.now codes.now l

  abbrev wrong : PlainLengths → Bool
  wrong p = any_of (search_lengths p i)

  module _ (told : Checked) (e : told ≡ search_tests (bad_plain s) n (wrong (plain_lengths s n)) (asked_of l) query.now) where
    -- the tests that the code makes by the lengths that it is told are the definition's
    refusal_is : told ≡ search_refusal i
    unfolding search_refusal
    refusal_is =
        e
        ∙ search-agree (bad_plain s) n (wrong (plain_lengths s n)) (wrong (plain_of s n)) (asked_of l) query.now (λ g few. ap wrong (plain-long s n g few))

    pub out-refused : (why : Refusal) → told ≡ Err why → unchanged l why ≡ search_outcome i
    unfolding search_outcome
    out-refused why h = rw (sym refusal_is ∙ h)

    module _ (h : told ≡ Ok tt) where
      pub out-worked : search_worked (cell_of (whole s n query mask subs codes)) l ≡ search_outcome i
      unfolding search_outcome value_of
      out-worked = rw (sym refusal_is ∙ h)

      pub ready : Ready (whole s n query mask subs codes) l
      unfolding search_refusal
      ready =
          let p = search-passed (bad_plain s) n (wrong (plain_of s n)) (asked_of l) query.now (sym refusal_is ∙ h) in
          let long = none (search_lengths (plain_of s n) i) p.right in
          let subs-long = same-long subs.now _ (long 2) in
          let mask-long = same-long mask.now _ (long 1) in
          record {
            table_of = record {
              plain = p.good;
              query-long = same-long query.now _ (long 0);
              center-long = tt;
              subs-held = omega (arith, zero-mul (subs_long s), subs-long);
              table-long = same-long l.table _ (long 5);
            };
            rows-of = record {
              numbered = record {
                mask-few = omega (arith, p.rows_few, mask-long);
                few = p.rows_few;
                listed-long = tt;
                inside = λ k g. omega (arith, mask-long);
              };
              codes-long = rw mask-long (same-long codes.now _ (long 3));
            };
            even = same-long l.sums _ (long 4);
          }
