-- Tests 4, 6 and 7, which every entry point has in the same words, and the order in which tests 1 to 7 are made.
use Rattle.std.specs.Prelude.{ℕ, List, Ok, Err, Bool, cond, not, ◌&&◌, length, get_or, eqb, Float}
use Rattle.std.specs.Float.{nan, binary64}
use Rattle.std.specs.Float.Ieee.{lt, le, of_bits}
use Rattle.std.specs.Float.Ieee.Scale.{finite}
use Rattle.lists.specs.Tests.{every}
use Rattle.answers.specs.declared.Refusal.TheVariants.{NumbersOutOfBounds, NoRows, TooManyRows, WrongLength, TooManyAsked, NotFinite, DrawOutOfRange}
use Rattle.answers.specs.Answers.{Checked}
use Rattle.pq_params.specs.Bounds.{too_many_rows, too_much_asked}

-- 4: a buffer not of its length
abbrev pub not_long {ℓ} : {A : Type ℓ} → List A → ℕ → Bool
not_long l n = not (eqb (length l) n)

-- 6: a coordinate not finite
unfoldable pub any_not_finite : List Float → Bool
any_not_finite l = not (every (λ (i : ℕ). finite (get_or l i nan)) (length l))

-- 7: a draw not in 0 ≤ d < 1, NaN included
abbrev pub in_draw_range : Float → Bool
in_draw_range d = le (of_bits binary64 0) d && lt d (of_bits binary64 0x3ff0_0000_0000_0000)

unfoldable pub any_draw_out : List Float → Bool
any_draw_out l = not (every (λ (i : ℕ). in_draw_range (get_or l i nan)) (length l))

-- ---- 1 to 7 are tested in that order, those that apply: the first that refuses. `bad` is test 1, `wrong` is test 4.

-- training: 1, 2, 3, 4, 6, 7
unfoldable pub train_tests : Bool → ℕ → Bool → List Float → List Float → Checked
train_tests bad n wrong rows draws =
    cond bad (Err NumbersOutOfBounds)
    (cond (eqb n 0) (Err NoRows)
    (cond (too_many_rows n) (Err TooManyRows)
    (cond wrong (Err WrongLength)
    (cond (any_not_finite rows) (Err NotFinite)
    (cond (any_draw_out draws) (Err DrawOutOfRange) (Ok tt))))))

-- search, k places being lent: 1, 3, 4, 5, 6
unfoldable pub search_tests : Bool → ℕ → Bool → ℕ → List Float → Checked
search_tests bad n wrong k query =
    cond bad (Err NumbersOutOfBounds)
    (cond (too_many_rows n) (Err TooManyRows)
    (cond wrong (Err WrongLength)
    (cond (too_much_asked k) (Err TooManyAsked)
    (cond (any_not_finite query) (Err NotFinite) (Ok tt)))))

-- the whole check: 1, 3, 4
unfoldable pub check_tests : Bool → ℕ → Bool → Checked
check_tests bad n wrong =
    cond bad (Err NumbersOutOfBounds) (cond (too_many_rows n) (Err TooManyRows) (cond wrong (Err WrongLength) (Ok tt)))
