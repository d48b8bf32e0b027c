-- What the proofs of this crate cite.
use Prim.Native.Nat.{ℕ, ◌+◌, ◌*◌, ◌≤◌}
use mathlib.Core.Path.{◌≡◌}
use mathlib.Core.Bool.{Bool, true, false, not, ◌&&◌}
use mathlib.Core.List.{List}
use native.Mathlib.Omega.{arith}
use lib.Dec.{T}
use lib.ListN.{length, get_or-eq_default}
use Rattle.recorded.specs.Layout.{word_at}

-- where the exponent is not all ones there is no NaN
pub other-exponent : (a b : Bool) → a ≡ false → T (not (a && b))
other-exponent true b e = let z : ◌≡◌ {A = ℕ} 0 1 = cc in absurd (omega arith)
other-exponent false b e = tt

-- past the end every word is 0
pub word-past : (l : List ℕ) (k : ℕ) → length l ≤ k * 4 → word_at l k ≡ 0
unfolding word_at
word-past l k h =
    let a = get_or-eq_default l 0 {n = k * 4} h in
    let b = get_or-eq_default l 0 {n = k * 4 + 1} (omega arith) in
    let c = get_or-eq_default l 0 {n = k * 4 + 2} (omega arith) in
    let d = get_or-eq_default l 0 {n = k * 4 + 3} (omega arith) in
    rw (a, b, c, d)
