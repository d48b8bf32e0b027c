-- The tests of a celled search: what follows from their answer.
use mathlib.Core.Path.{◌≡◌, ◌∙◌, ap}
use mathlib.Core.Bool.{Bool}
use lib.ListN.{length}
use Rattle.std.specs.Prelude.{Ok, Err}
use Rattle.answers.specs.declared.Refusal.{Refusal}
use Rattle.lists.specs.Tests.{any_of}
use Rattle.lists.proofs.Tests.{none}
use Rattle.pq_params.specs.declared.CelledLengths.{CelledLengths}
use Rattle.pq_params.specs.Bounds.{bad_celled}
use Rattle.pq_params.specs.Lengths.{celled_of, celled_lengths, table_long}
use Rattle.pq_params.specs.Refusals.{search_tests}
use Rattle.pq_params.proofs.Refusing.{same-long, search-passed, search-agree, celled-long}
use Rattle.celled_lists.specs.Index.{Index}
use Rattle.cell_walk.specs.Results.{SearchOut, search_out, asked_of}
use Rattle.probed_cells.specs.ProbedInner.{Ready}
use Rattle.celled_search.specs.Outcome.{SearchIn, search_lengths, search_refusal, search_worked, search_outcome}

-- what the tests leave
pub record Passed (i : SearchIn) : Type 0 where
  pub ready : Ready i.asked
  pub even : length i.lent.sums ≡ asked_of i.lent
  pub table-long : length i.lent.table ≡ table_long i.asked.index.shape.plain

module _ (i : SearchIn) where
  abbrev x : Index
  x = i.asked.index

  abbrev wrong : CelledLengths → Bool
  wrong l = any_of (search_lengths l i)

  -- by the lengths that the code is told the tests answer the same
  pub refusal_is : search_tests (bad_celled x.shape) x.n (wrong (celled_lengths x.shape x.n)) (asked_of i.lent) i.asked.query ≡ search_refusal i
  unfolding search_refusal
  refusal_is =
      search-agree (bad_celled x.shape) x.n (wrong (celled_lengths x.shape x.n)) (wrong (celled_of x.shape x.n)) (asked_of i.lent) i.asked.query
      (λ g few. ap wrong (celled-long x.shape x.n g few))

  pub out-refused : (why : Refusal) → search_refusal i ≡ Err why → search_out (Err why) i.lent.rows i.lent.sums i.lent.table ≡ search_outcome i
  unfolding search_outcome
  out-refused why h = rw h

  module _ (z : search_refusal i ≡ Ok tt) where
    pub out-worked : (o : SearchOut) → o ≡ search_worked i.asked i.lent → o ≡ search_outcome i
    unfolding search_outcome
    out-worked o w = w ∙ rw z

    pub passed : Passed i
    unfolding search_refusal
    passed =
        let p = search-passed (bad_celled x.shape) x.n (wrong (celled_of x.shape x.n)) (asked_of i.lent) i.asked.query z in
        let l = none (search_lengths (celled_of x.shape x.n) i) p.right in
        record {
          ready = record {
            good = p.good;
            few = p.rows_few;
            query-long = same-long i.asked.query _ (l 5);
            mask-long = same-long i.asked.mask _ (l 6);
            coarse-long = same-long x.coarse _ (l 0);
            starts-long = same-long x.starts _ (l 1);
            members-long = same-long x.members _ (l 2);
            subs-long = same-long x.subs _ (l 3);
            codes-long = same-long x.codes _ (l 4);
          };
          even = same-long i.lent.sums _ (l 7);
          table-long = same-long i.lent.table _ (l 8);
        }
