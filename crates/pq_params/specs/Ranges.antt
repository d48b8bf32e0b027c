-- Ranges: s = D / n_sub, e = D mod s. The first e are s+1 long, the others s, without gaps from 0.
use Rattle.std.specs.Prelude.{ℕ, zero, suc, ◌+◌, ◌/◌, ◌%◌, List, [], ◌∷◌, cond, ltb, Float}
use Rattle.lists.specs.Lists.{tab}
use Rattle.pq_params.specs.Bounds.{bad_range}

abbrev pub short_width : ℕ → ℕ → ℕ
short_width d nsub = d / nsub

abbrev pub long_ranges : ℕ → ℕ → ℕ
long_ranges d nsub = d % short_width d nsub

-- how long range i is
unfoldable pub width_of : ℕ → ℕ → ℕ → ℕ
width_of d nsub i = cond (ltb i (long_ranges d nsub)) (short_width d nsub + 1) (short_width d nsub)

-- where range i begins, which is where the one before it ends
unfoldable pub begin_of : ℕ → ℕ → ℕ → ℕ
begin_of d nsub zero = 0
begin_of d nsub (suc i) = begin_of d nsub i + width_of d nsub i

abbrev pub end_of : ℕ → ℕ → ℕ → ℕ
end_of d nsub i = begin_of d nsub (suc i)

-- C, the coordinates covered: where the last range ends
abbrev pub covered_of : ℕ → ℕ → ℕ
covered_of d nsub = begin_of d nsub nsub

-- how many pairs are used: none in refusal 1
abbrev pub ranges_used : ℕ → ℕ → ℕ
ranges_used d nsub = cond (bad_range d nsub) 0 nsub

-- The list of ranges is n_sub pairs, begin and end. Unused places of the fixed list are 0, 0; in refusal 1 all are.
abbrev pub pair_at : ℕ → ℕ → ℕ → List ℕ
pair_at d nsub i = cond (ltb i (ranges_used d nsub)) (begin_of d nsub i ∷ end_of d nsub i ∷ []) (0 ∷ 0 ∷ [])

unfoldable pub ranges_of : ℕ → ℕ → List (List ℕ)
ranges_of d nsub = tab (pair_at d nsub) 64

-- the values x, at the D coordinates, on range s
abbrev pub on_range : ℕ → ℕ → ℕ → (ℕ → Float) → ℕ → Float
on_range d nsub s x j = x (begin_of d nsub s + j)
