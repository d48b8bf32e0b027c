-- Flat lent buffers: a part of a list, and lists given by their elements.
use Rattle.std.specs.Prelude.{ℕ, zero, suc, List, [], ◌∷◌, ◌++◌, Option, Some, None, take, drop, length, get_or, ◌≡◌}

-- the w elements of s from place a on
unfoldable pub part {ℓ} : {A : Type ℓ} → List A → ℕ → ℕ → List A
part s a w = take w (drop a s)

-- the same of a list that may not be there
abbrev pub part_if : {A : Type 0} → Option (List A) → ℕ → ℕ → Option (List A)
part_if (Some s) a w = Some (part s a w)
part_if None a w = None

-- the list s, with p in the place of the w elements from a on
unfoldable pub put_part {ℓ} : {A : Type ℓ} → List A → ℕ → ℕ → List A → List A
put_part s a w p = take a s ++ (p ++ drop w (drop a s))

-- g 0, g 1, .., g (n - 1)
unfoldable pub tab {ℓ} : {A : Type ℓ} → (ℕ → A) → ℕ → List A
tab g zero = []
tab g (suc n) = tab g n ++ (g n ∷ [])

-- v, n times
abbrev pub fill {ℓ} : {A : Type ℓ} → A → ℕ → List A
fill v n = tab (λ (i : ℕ). v) n

-- the lists g 0, g 1, .., g (n - 1), one after the other
unfoldable pub join {ℓ} : {A : Type ℓ} → (ℕ → List A) → ℕ → List A
join g zero = []
join g (suc n) = join g n ++ g n

-- n stretches of width w: g 0 0, .., g 0 (w - 1), g 1 0, .., g (n - 1) (w - 1)
abbrev pub strip {ℓ} : {A : Type ℓ} → (ℕ → ℕ → A) → ℕ → ℕ → List A
strip g w i = tab (g i) w

abbrev pub grid {ℓ} : {A : Type ℓ} → (ℕ → ℕ → A) → ℕ → ℕ → List A
grid g n w = join (strip g w) n

-- what a function that hands out a part ensures: which part it is, and its length, which callers ask of it again
pub record Part {ℓ} {A : Type ℓ} (s : List A) (a w : ℕ) (r : List A) : Type ℓ where
  pub is : r ≡ part s a w
  pub long : length r ≡ w

-- the row number of the k-th row: from the list, or k itself where there is none
abbrev pub member_of : Option (List ℕ) → ℕ → ℕ
member_of (Some members) k = get_or members k 0
member_of None k = k
