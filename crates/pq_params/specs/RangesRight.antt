-- Document 01 on the list of ranges, in its own words, for D and n_sub within their bounds: s = D / n_sub, e = D mod s.
use Rattle.std.specs.Prelude.{ℕ, suc, ◌+◌, ◌-◌, ◌*◌, ◌≤◌, ◌<◌, ◌≡◌, List, [], ◌∷◌, length, get_or}
use Rattle.pq_params.specs.Ranges.{short_width, long_ranges}

-- begin and end of pair i
abbrev pub begin_in : List (List ℕ) → ℕ → ℕ
begin_in l i = get_or (get_or l i []) 0 0

abbrev pub end_in : List (List ℕ) → ℕ → ℕ
end_in l i = get_or (get_or l i []) 1 0

pub record RangesRight (d nsub : ℕ) (l : List (List ℕ)) : Type 0 where
  -- 64 places, each a pair
  pub places : length l ≡ 64
  pub pairs : (i : ℕ) → i < 64 → get_or l i [] ≡ begin_in l i ∷ end_in l i ∷ []
  -- s is at least 1, and e is below n_sub
  pub short-some : 1 ≤ short_width d nsub
  pub long-few : long_ranges d nsub < nsub
  -- without gaps from 0
  pub from_zero : begin_in l 0 ≡ 0
  pub no_gap : (i : ℕ) → suc i < nsub → begin_in l (suc i) ≡ end_in l i
  -- the first e are s+1 long, the others s, and none is empty
  pub long : (i : ℕ) → i < long_ranges d nsub → end_in l i ≡ begin_in l i + (short_width d nsub + 1)
  pub short : (i : ℕ) → long_ranges d nsub ≤ i → i < nsub → end_in l i ≡ begin_in l i + short_width d nsub
  pub not-empty : (i : ℕ) → i < nsub → begin_in l i < end_in l i
  -- they end at C = n_sub * s + e, never above D
  pub last : end_in l (nsub - 1) ≡ nsub * short_width d nsub + long_ranges d nsub
  pub within : nsub * short_width d nsub + long_ranges d nsub ≤ d
  -- unused places are 0, 0
  pub unused : (i : ℕ) → nsub ≤ i → i < 64 → get_or l i [] ≡ 0 ∷ 0 ∷ []
