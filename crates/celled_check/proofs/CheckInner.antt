-- Joints between the steps of the whole check: the counts, the three walks, the tests, and the two ends.
use Prim.Native.Nat.{ℕ, ◌+◌, ◌*◌, ◌≤◌}
use mathlib.Core.Path.{◌≡◌, sym, ◌∙◌, ap}
use mathlib.Core.Bool.{Bool, ◌&&◌, not}
use mathlib.Core.List.{List, [], ◌∷◌, ◌++◌}
use native.Mathlib.Omega.{arith}
use lib.ListN.{length, take}
use lib.Seq.{get_or-take}
use lib.Dec.{eqb}
use Rattle.std.specs.Prelude.{Ok, Err}
use Rattle.lists.specs.Lists.{tab}
use Rattle.lists.specs.Tests.{any_of, every}
use Rattle.lists.proofs.Tables.{get_or-tab}
use Rattle.lists.proofs.Tests.{none, none_left, every-ext}
use Rattle.lists.proofs.Walks.{every-stretch}
use Rattle.answers.specs.declared.Refusal.{Refusal}
use Rattle.answers.specs.Answers.{Checked}
use Rattle.pq_params.specs.declared.Shape.{Shape}
use Rattle.pq_params.specs.declared.CelledLengths.{CelledLengths}
use Rattle.pq_params.specs.Bounds.{bad_celled, centers_of}
use Rattle.pq_params.specs.Refusals.{not_long}
use Rattle.pq_params.specs.Codes.{codes_below}
use Rattle.pq_params.proofs.Bounds.{plain-bounds, celled-bounds}
use Rattle.pq_params.proofs.Refusing.{same-long, check-passed, check-agree, celled-long}
use Rattle.celled_lists.specs.Lists.{is_below, places}
use Rattle.celled_lists.specs.Index.{Index, lengths_of, length_tests, index_lengths}
use Rattle.celled_lists.proofs.Lengths.{sized}
use Rattle.celled_check.specs.Check.{stands_once, index_sound, CheckIn, check_out, check_lengths, check_refusal, checked, check_outcome}
use Rattle.celled_check.specs.CheckInner.{refusal_by, is_one, cells_sound, Ready}

-- each row number stands once where each of the first n counts is 1
pub once-counted : (members counts : List ℕ) (n w : ℕ) → counts ≡ tab (places members) w → n ≤ w → every (is_one (take n counts)) n ≡ every (stands_once members) n
once-counted members counts n w e h =
    every-ext (is_one (take n counts)) (stands_once members) n
    (λ m k. rw (get_or-take n counts m 0 k, e, get_or-tab (places members) w m 0 (omega arith)))

-- the walk of all codes tests the codes of every row
all_codes : (codes : List ℕ) (z : Shape) (n : ℕ) → length codes ≡ n * z.nsub
    → every (is_below codes (centers_of z.bits)) (length codes) ≡ every (codes_below codes z) n
all_codes codes z n l = rw l (sym (every-stretch (is_below codes (centers_of z.bits)) n z.nsub))

-- the three walks together
pub all_sound : (x : Index) (a b d : Bool) → a ≡ cells_sound x → b ≡ every (stands_once x.members) x.n
    → d ≡ every (is_below x.codes (centers_of x.shape.plain.bits)) (length x.codes) → length x.codes ≡ x.n * x.shape.plain.nsub
    → (a && b && d) ≡ index_sound x
unfolding index_sound
all_sound x a b d p q r l = rw (p, q, r, all_codes x.codes x.shape.plain x.n l)

-- ---- the tests

module _ (i : CheckIn) (r : Checked) (e : r ≡ refusal_by i.index (length i.work)) where
  -- test 4 as the code makes it gives document 01's refusal
  refusal_is : check_refusal i ≡ r
  refusal_is =
      let x = i.index in
      let wrong : CelledLengths → Bool = λ long. any_of (length_tests long (lengths_of x) ++ (not (eqb (length i.work) long.work) ∷ [])) in
      sym (e ∙ check-agree (bad_celled x.shape) x.n _ (any_of (check_lengths i)) (λ g h. ap wrong (celled-long x.shape x.n g h)))

  pub ready : r ≡ Ok tt → Ready i.index i.work
  ready z =
      let x = i.index in
      let p = check-passed (bad_celled x.shape) x.n (any_of (check_lengths i)) (refusal_is ∙ z) in
      let l = sized x (none_left (index_lengths x) (not_long i.work (x.n + 1024) ∷ []) p.right) in
      record {
        bits_most = (plain-bounds x.shape.plain (celled-bounds x.shape p.good).plain).bits_most;
        rows_few = p.rows_few;
        starts-long = l.starts-long;
        members-long = l.members-long;
        codes-long = l.codes-long;
        work-long = same-long i.work _ (none (check_lengths i) p.right 5);
      }

  -- ---- the two ends

  pub out-refused : (why : Refusal) → r ≡ Err why → check_out (Err why) i.work ≡ check_outcome i
  unfolding check_outcome
  out-refused why h = rw (refusal_is, h)

  pub out-worked : r ≡ Ok tt → checked i ≡ check_outcome i
  unfolding check_outcome
  out-worked z = let h : check_refusal i ≡ Ok tt = refusal_is ∙ z in rw h
