-- What the steps of the codes test promise to one another and to the walk, in terms of n_sub and K.
use Rattle.std.specs.Prelude.{ℕ, zero, suc, ◌*◌, ◌≤◌, ◌<◌, ◌≡◌, max, Bool, true, cond, List, length, get_or, ltb, IfSome}
use Rattle.cell_table.specs.declared.CellView.{CellView}
use Rattle.lists.specs.Tests.{every}
use Rattle.cell_codes.specs.Codes.{row_at, visible, code_at}

abbrev pub number_at : List ℕ → ℕ → ℕ
number_at l i = get_or l i 0

-- the highest of g 0, .., g (n - 1), or 0
unfoldable pub highest_of : (ℕ → ℕ) → ℕ → ℕ
highest_of g zero = 0
highest_of g (suc n) = max (highest_of g n) (g n)

-- whether the i-th number of a list is below k
abbrev pub under : List ℕ → ℕ → ℕ → Bool
under l k i = ltb (number_at l i) k

-- whether the codes of row m are below K
abbrev pub code_under : List ℕ → ℕ → ℕ → ℕ → ℕ → Bool
code_under codes nsub centers m s = ltb (code_at codes nsub m s) centers

abbrev pub codes_under : List ℕ → ℕ → ℕ → ℕ → Bool
codes_under codes nsub centers m = every (code_under codes nsub centers m) nsub

-- f of the shown rows alone
abbrev pub unless : (ℕ → Bool) → (ℕ → Bool) → ℕ → Bool
unless shown f m = cond (shown m) (f m) true

-- whether row m is hidden or its codes are below K; the same of the i-th row of a cell
abbrev pub row_sound : List ℕ → List ℕ → ℕ → ℕ → ℕ → Bool
row_sound mask codes nsub centers = unless (visible mask) (codes_under codes nsub centers)

abbrev pub sound_at : CellView → ℕ → ℕ → Bool
sound_at z centers i = row_sound z.mask.now z.codes.now z.shape.nsub centers (row_at z i)

-- a cell's rows: their numbers are there, and each has a mask byte
pub record Numbered (z : CellView) : Type 0 where
  pub mask-few : length z.mask.now ≤ 100_001
  pub few : z.n ≤ 100_001
  pub listed-long : IfSome z.members (λ l. z.n ≤ length l.now)
  pub inside : (i : ℕ) → i < z.n → row_at z i < length z.mask.now

-- and each has codes
pub record Rows (z : CellView) : Type 0 where
  pub numbered : Numbered z
  pub codes-long : length z.codes.now ≡ length z.mask.now * z.shape.nsub
