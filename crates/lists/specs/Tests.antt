-- Tests over the numbers below n, and over lists of numbers.
use Rattle.std.specs.Prelude.{ℕ, zero, suc, ◌-◌, List, [], ◌∷◌, Bool, true, false, cond, ◌&&◌, ◌||◌, length, get_or, ltb}

-- whether one of the tests holds, joined from the left as the code's `|` joins them
abbrev pub any_from : Bool → List Bool → Bool
any_from a [] = a
any_from a (b ∷ bs) = any_from (a || b) bs

abbrev pub any_of : List Bool → Bool
any_of bs = any_from false bs

-- whether f holds at every number below n
unfoldable pub every : (ℕ → Bool) → ℕ → Bool
every f zero = true
every f (suc n) = every f n && f n

-- the lowest number below n at which f holds, or n
unfoldable pub first : (ℕ → Bool) → ℕ → ℕ
first f zero = zero
first f (suc n) = let i = first f n in cond (ltb i n) i (cond (f n) n (suc n))

-- at how many numbers below n f holds
unfoldable pub count : (ℕ → Bool) → ℕ → ℕ
count f zero = 0
count f (suc n) = let c = count f n in cond (f n) (suc c) c

-- the elements at which f holds, in their order
unfoldable pub keep : (ℕ → Bool) → List ℕ → List ℕ
keep f [] = []
keep f (x ∷ xs) = cond (f x) (x ∷ keep f xs) (keep f xs)

-- whether each element is below the next
abbrev pub rises_at : List ℕ → ℕ → Bool
rises_at l i = ltb (get_or l i 0) (get_or l (suc i) 0)

unfoldable pub rising : List ℕ → Bool
rising l = every (rises_at l) (length l - 1)
