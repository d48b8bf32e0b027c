-- The layout of a recorded file: words of four bytes, the lowest byte first; floats and draws by their bits; a head, and cases.
use Rattle.std.specs.Prelude.{ℕ, ◌+◌, ◌*◌, ◌/◌, ◌%◌, Bool, cond, ◌&&◌, List, length, get_or, take, drop, eqb, ltb, leb, Float}
use Rattle.std.specs.Float.{binary32, binary64}
use Rattle.std.specs.Float.Ieee.{of_bits}

abbrev pub word_in : ℕ → ℕ → ℕ → ℕ → ℕ
word_in a b c d = a + b * 256 + c * 65_536 + d * 16_777_216

-- word k, bytes past the end being 0
unfoldable pub word_at : List ℕ → ℕ → ℕ
word_at l k = word_in (get_or l (k * 4) 0) (get_or l (k * 4 + 1) 0) (get_or l (k * 4 + 2) 0) (get_or l (k * 4 + 3) 0)

-- a place past the end of every file
abbrev pub far : ℕ
far = 1_099_511_627_776

unfoldable pub place_after : ℕ → ℕ → ℕ
place_after at words = cond (ltb at far && ltb words far) (at + words) far

unfoldable pub product_of : ℕ → ℕ → ℕ
product_of a b = cond (ltb a 65_536 && ltb b 65_536) (a * b) far

-- n / 4, rounded up
abbrev pub padded_words : ℕ → ℕ
padded_words n = n / 4 + (n % 4 + 3) / 4

-- the number of a pattern that is finite, else +0.0
unfoldable pub float_of : ℕ → Float
float_of b = cond (eqb (b % 0x8000_0000 / 0x0080_0000) 255) (of_bits binary32 0) (of_bits binary32 b)

unfoldable pub double_of : ℕ → Float
double_of b = cond (eqb (b % 0x8000_0000_0000_0000 / 0x0010_0000_0000_0000) 2047) (of_bits binary64 0) (of_bits binary64 b)

abbrev pub draw_of : ℕ → ℕ → Float
draw_of low high = double_of (high * 0x1_0000_0000 + low)

-- the j-th number, float or draw from a place on
abbrev pub number_at : List ℕ → ℕ → ℕ → ℕ
number_at l at j = word_at l (place_after at j)

abbrev pub float_at : List ℕ → ℕ → ℕ → Float
float_at l at j = float_of (number_at l at j)

abbrev pub draw_at : List ℕ → ℕ → ℕ → Float
draw_at l at j = draw_of (number_at l (place_after at j) j) (number_at l (place_after (place_after at j) 1) j)

abbrev pub ends_at : List ℕ → ℕ → Bool
ends_at l at = eqb (length l / 4) at && eqb (length l % 4) 0

-- "bergrosk", version 1, then the number of cases
abbrev pub is_head : List ℕ → Bool
is_head l = eqb (word_at l 0) 0x6772_6562 && eqb (word_at l 1) 0x6b73_6f72 && eqb (word_at l 2) 1 && ltb (word_at l 3) (length l)

unfoldable pub cases_of : List ℕ → ℕ
cases_of l = cond (is_head l) (word_at l 3) 0

-- a case: its kind, the length of its body in bytes, its body
abbrev pub bytes_of : List ℕ → ℕ → ℕ
bytes_of l at = word_at l (place_after at 1)

abbrev pub next_of : List ℕ → ℕ → ℕ
next_of l at = place_after (place_after at 2) (bytes_of l at / 4)

abbrev pub is_case : List ℕ → ℕ → ℕ → Bool
is_case l at kind = eqb (word_at l at) kind && eqb (bytes_of l at % 4) 0 && leb (next_of l at) (length l / 4)

unfoldable pub body_of : List ℕ → ℕ → ℕ → List ℕ
body_of l at kind = take (cond (is_case l at kind) (bytes_of l at) 0) (drop (place_after at 2 * 4) l)

-- a search: k, its query of d coordinates, found, scored, k row numbers, k sums
abbrev pub after_search : List ℕ → ℕ → ℕ → ℕ
after_search l at d = place_after (place_after (place_after at 3) d) (place_after (word_at l at) (word_at l at))
