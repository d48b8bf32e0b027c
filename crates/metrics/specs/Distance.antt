-- Distance: from +0.0, in coordinate order, each operation rounding once. No root.
use Rattle.std.specs.Prelude.{ℕ, zero, suc, ◌+◌, ◌*◌, List, Bool, Option, Some, None, get_or, Float}
use Rattle.std.specs.Float.{nan, inf, fin, binary32}
use Rattle.std.specs.Float.Ieee.{add, sub, mul, of_bits}
use Rattle.std.specs.Float.Ieee.Scale.{finite}

-- +0.0
abbrev pub zero32 : Float
zero32 = of_bits binary32 0

-- +0.0 + f 0 + f 1 + .. + f (n - 1), from the left, each sum rounded once
unfoldable pub sum_to : (ℕ → Float) → ℕ → Float
sum_to f zero = zero32
sum_to f (suc j) = add binary32 (sum_to f j) (f j)

-- A coordinate's value is x, or x − residual.
unfoldable pub value_of : Option Float → Float → Float
value_of (Some r) x = sub binary32 x r
value_of None x = x

-- the coordinates of a slice
abbrev pub coordinate_in : List Float → ℕ → Float
coordinate_in x j = get_or x j nan

-- coordinate j of centre i, where centres of width w stand one after the other
abbrev pub coordinate : List Float → ℕ → ℕ → ℕ → Float
coordinate cs w i j = get_or cs (i * w + j) nan

-- whether coordinate j of a slice is finite
abbrev pub finite_in : List Float → ℕ → Bool
finite_in s j = finite (get_or s j nan)

-- the residual at coordinate j, if there is one
abbrev pub residual_at : Option (List Float) → ℕ → Option Float
residual_at (Some r) j = Some (coordinate_in r j)
residual_at None j = None

-- the values of a slice of coordinates, less the slice of the residual's if there is one
abbrev pub value_in : Option (List Float) → List Float → ℕ → Float
value_in residual x j = value_of (residual_at residual j) (coordinate_in x j)

-- d·d with d = value − centre, at coordinate j
abbrev pub term_at : (ℕ → Float) → (ℕ → Float) → ℕ → Float
term_at x c j = mul binary32 (sub binary32 (x j) (c j)) (sub binary32 (x j) (c j))

-- Step 2: the sum from +0.0, in coordinate order, over w coordinates of the values x and the centre c.
unfoldable pub squared : (ℕ → Float) → (ℕ → Float) → ℕ → Float
squared x c w = sum_to (term_at x c) w

-- A worked distance is either a finite f32 or the mark not finite, which is None.
unfoldable pub worked : Float → Option Float
worked nan = None
worked (inf s) = None
worked (fin s m e) = Some (fin s m e)

abbrev pub distance : (ℕ → Float) → (ℕ → Float) → ℕ → Option Float
distance x c w = worked (squared x c w)
