-- Laws on the tests of an entry point: what holds where none of them refuses, and that test 4 counts only where tests 1 and 3 let the numbers pass.
use Prim.Native.Nat.{ℕ, zero, suc, ◌≤◌, ◌<◌}
use mathlib.Core.Path.{◌≡◌, refl, ap}
use mathlib.Core.Bool.{Bool, true, false, cond}
use mathlib.Core.List.{List}
use native.Mathlib.Omega.{arith}
use borrow.Author.Tests.{eqb-true, eqb-false, ltb-false, not-false}
use lib.ListN.{length}
use lib.Dec.{eqb}
use lib.Ieee.{Float}
use Rattle.std.specs.Prelude.{Ok, Err}
use Rattle.answers.specs.declared.Refusal.{Refusal}
use Rattle.answers.specs.declared.Refusal.TheVariants.{NumbersOutOfBounds, NoRows, TooManyRows, WrongLength, TooManyAsked, NotFinite, DrawOutOfRange}
use Rattle.answers.specs.Answers.{Checked}
use Rattle.pq_params.specs.declared.Shape.{Shape}
use Rattle.pq_params.specs.declared.CelledShape.{CelledShape}
use Rattle.pq_params.specs.Bounds.{bad_plain, bad_celled, too_many_rows, too_much_asked}
use Rattle.pq_params.specs.Lengths.{plain_of, plain_lengths, celled_of, celled_lengths}
use Rattle.pq_params.specs.Refusals.{not_long, any_not_finite, any_draw_out, train_tests, search_tests, check_tests}

-- a refusal that is picked by a test, and none is: the test fails, and so on
pub pick-l : (b : Bool) (r : Refusal) (y : Checked) → cond b (Err r) y ≡ Ok tt → b ≡ false
pick-l true r y h = cc
pick-l false r y h = refl

pub pick-r : (b : Bool) (r : Refusal) (y : Checked) → cond b (Err r) y ≡ Ok tt → y ≡ Ok tt
pick-r true r y h = cc
pick-r false r y h = h

-- a buffer that passes test 4 has its length
pub same-long : {A : Type 0} (l : List A) (n : ℕ) → not_long l n ≡ false → length l ≡ n
same-long l n e = eqb-true (length l) n (not-false (eqb (length l) n) e)

some : (n : ℕ) → (n ≡ 0 → ⊥) → 0 < n
some zero h = absurd (h refl)
some (suc n) h = omega arith

-- ---- what the work may count on

pub record TrainPassed (bad : Bool) (n : ℕ) (wrong : Bool) (rows draws : List Float) : Type 0 where
  pub good : bad ≡ false
  pub some-row : 0 < n
  pub rows_few : n ≤ 100_001
  pub right : wrong ≡ false
  pub finite : any_not_finite rows ≡ false
  pub drawn : any_draw_out draws ≡ false

pub train-passed : (bad : Bool) (n : ℕ) (wrong : Bool) (rows draws : List Float) → train_tests bad n wrong rows draws ≡ Ok tt → TrainPassed bad n wrong rows draws
unfolding train_tests
train-passed bad n wrong rows draws h =
    let h2 = pick-r bad NumbersOutOfBounds _ h in
    let h3 = pick-r (eqb n 0) NoRows _ h2 in
    let h4 = pick-r (too_many_rows n) TooManyRows _ h3 in
    let h6 = pick-r wrong WrongLength _ h4 in
    let h7 = pick-r (any_not_finite rows) NotFinite _ h6 in
    record {
      good = pick-l bad NumbersOutOfBounds _ h;
      some-row = some n (eqb-false n 0 (pick-l (eqb n 0) NoRows _ h2));
      rows_few = ltb-false 100_001 n (pick-l (too_many_rows n) TooManyRows _ h3);
      right = pick-l wrong WrongLength _ h4;
      finite = pick-l (any_not_finite rows) NotFinite _ h6;
      drawn = pick-l (any_draw_out draws) DrawOutOfRange _ h7;
    }

pub record SearchPassed (bad : Bool) (n : ℕ) (wrong : Bool) (k : ℕ) (query : List Float) : Type 0 where
  pub good : bad ≡ false
  pub rows_few : n ≤ 100_001
  pub right : wrong ≡ false
  pub places-few : k ≤ 4_096
  pub finite : any_not_finite query ≡ false

pub search-passed : (bad : Bool) (n : ℕ) (wrong : Bool) (k : ℕ) (query : List Float) → search_tests bad n wrong k query ≡ Ok tt → SearchPassed bad n wrong k query
unfolding search_tests
search-passed bad n wrong k query h =
    let h3 = pick-r bad NumbersOutOfBounds _ h in
    let h4 = pick-r (too_many_rows n) TooManyRows _ h3 in
    let h5 = pick-r wrong WrongLength _ h4 in
    let h6 = pick-r (too_much_asked k) TooManyAsked _ h5 in
    record {
      good = pick-l bad NumbersOutOfBounds _ h;
      rows_few = ltb-false 100_001 n (pick-l (too_many_rows n) TooManyRows _ h3);
      right = pick-l wrong WrongLength _ h4;
      places-few = ltb-false 4_096 k (pick-l (too_much_asked k) TooManyAsked _ h5);
      finite = pick-l (any_not_finite query) NotFinite _ h6;
    }

pub record CheckPassed (bad : Bool) (n : ℕ) (wrong : Bool) : Type 0 where
  pub good : bad ≡ false
  pub rows_few : n ≤ 100_001
  pub right : wrong ≡ false

pub check-passed : (bad : Bool) (n : ℕ) (wrong : Bool) → check_tests bad n wrong ≡ Ok tt → CheckPassed bad n wrong
unfolding check_tests
check-passed bad n wrong h =
    let h3 = pick-r bad NumbersOutOfBounds _ h in
    let h4 = pick-r (too_many_rows n) TooManyRows _ h3 in
    record {
      good = pick-l bad NumbersOutOfBounds _ h;
      rows_few = ltb-false 100_001 n (pick-l (too_many_rows n) TooManyRows _ h3);
      right = pick-l wrong WrongLength _ h4;
    }

-- ---- a test 4 that is the right one where tests 1 and 3 pass gives the same refusal

-- the code and the definition differ at most where an earlier test refuses
abbrev Agree : Bool → ℕ → Bool → Bool → Type 0
Agree bad n wrong other = bad ≡ false → too_many_rows n ≡ false → wrong ≡ other

under : (b : Bool) (x : Checked) (f : Bool → Checked) (wrong other : Bool) → (b ≡ false → wrong ≡ other) → ◌≡◌ {A = Checked} (cond b x (f wrong)) (cond b x (f other))
under true x f wrong other h = refl
under false x f wrong other h = ap f (h refl)

pub train-agree : (bad : Bool) (n : ℕ) (wrong other : Bool) (rows draws : List Float) → Agree bad n wrong other → train_tests bad n wrong rows draws ≡ train_tests bad n other rows draws
unfolding train_tests
train-agree true n wrong other rows draws h = refl
train-agree false n wrong other rows draws h =
    ap (λ (y : Checked). cond (eqb n 0) (Err NoRows) y)
    (under (too_many_rows n) (Err TooManyRows) (λ (w : Bool). cond w (Err WrongLength) (cond (any_not_finite rows) (Err NotFinite) (cond (any_draw_out draws) (Err DrawOutOfRange) (Ok tt)))) wrong other (h refl))

pub search-agree : (bad : Bool) (n : ℕ) (wrong other : Bool) (k : ℕ) (query : List Float) → Agree bad n wrong other → search_tests bad n wrong k query ≡ search_tests bad n other k query
unfolding search_tests
search-agree true n wrong other k query h = refl
search-agree false n wrong other k query h =
    under (too_many_rows n) (Err TooManyRows) (λ (w : Bool). cond w (Err WrongLength) (cond (too_much_asked k) (Err TooManyAsked) (cond (any_not_finite query) (Err NotFinite) (Ok tt)))) wrong other (h refl)

pub check-agree : (bad : Bool) (n : ℕ) (wrong other : Bool) → Agree bad n wrong other → check_tests bad n wrong ≡ check_tests bad n other
unfolding check_tests
check-agree true n wrong other h = refl
check-agree false n wrong other h = under (too_many_rows n) (Err TooManyRows) (λ (w : Bool). cond w (Err WrongLength) (Ok tt)) wrong other (h refl)

-- ---- the lengths where tests 1 and 3 pass

pub plain-long : (s : Shape) (n : ℕ) → bad_plain s ≡ false → too_many_rows n ≡ false → plain_lengths s n ≡ plain_of s n
unfolding plain_lengths
plain-long s n g h = rw (g, h)

pub celled-long : (s : CelledShape) (n : ℕ) → bad_celled s ≡ false → too_many_rows n ≡ false → celled_lengths s n ≡ celled_of s n
unfolding celled_lengths
celled-long s n g h = rw (g, h)
