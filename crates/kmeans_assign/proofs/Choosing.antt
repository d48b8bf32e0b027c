-- The nearest of some centres: what it depends on, and one more centre.
use Prim.Native.Nat.{ℕ, zero, suc, ◌+◌, ◌≤◌, ◌<◌}
use mathlib.Core.Path.{◌≡◌, refl, ap}
use mathlib.Core.Bool.{Bool, true, false, cond}
use mathlib.Core.List.{List}
use native.Mathlib.Omega.{arith}
use native.Mathlib.Numerals.{add-one}
use lib.Ieee.{Float}
use Rattle.std.specs.Prelude.{Option}
use Rattle.metrics.specs.Distance.{worked, distance, coordinate}
use Rattle.metrics.proofs.Laws.{squared-ext}
use Rattle.kmeans_assign.specs.Assign.{less_of, nearest, distance_to, chosen}

pub nearest-ext : (d e : ℕ → Option Float) (n : ℕ) → ((i : ℕ) → d i ≡ e i) → nearest d n ≡ nearest e n
unfolding nearest
nearest-ext d e zero h = refl
nearest-ext d e (suc i) h = rw (nearest-ext d e i h, h i, h (nearest e i))

pick-lt : (b : Bool) (i best : ℕ) → best ≤ i → cond b i best < suc i
pick-lt true i best h = omega arith
pick-lt false i best h = omega arith

nearest-le : (d : ℕ → Option Float) (i : ℕ) → nearest d (suc i) < suc i
unfolding nearest
nearest-le d zero = pick-lt (less_of (d 0) (d 0)) 0 0 (omega arith)
nearest-le d (suc i) = pick-lt (less_of (d (suc i)) (d (nearest d (suc i)))) (suc i) (nearest d (suc i)) (omega (arith, nearest-le d i))

-- the best of the first n is one of them
pub nearest-lt : (d : ℕ → Option Float) (n : ℕ) → 0 < n → nearest d n < n
nearest-lt d zero h = absurd (omega arith)
nearest-lt d (suc i) h = nearest-le d i

same-either : (b : Bool) → ◌≡◌ {A = ℕ} (cond b 0 0) 0
same-either true = refl
same-either false = refl

-- of one centre it is centre 0
pub nearest-one : (d : ℕ → Option Float) → nearest d 1 ≡ 0
unfolding nearest
nearest-one d = same-either (less_of (d 0) (d 0))

-- one more centre: it is nearer than the best so far, or it is not
pub nearest-took : (d : ℕ → Option Float) (i best : ℕ) (least rival : Option Float) → best ≡ nearest d i → least ≡ d best → rival ≡ d i → less_of rival least ≡ true → i ≡ nearest d (i + 1)
unfolding nearest
nearest-took d i best least rival e f g h = rw (add-one, ← e, ← f, ← g, h)

pub nearest-kept : (d : ℕ → Option Float) (i best : ℕ) (least rival : Option Float) → best ≡ nearest d i → least ≡ d best → rival ≡ d i → less_of rival least ≡ false → best ≡ nearest d (i + 1)
unfolding nearest
nearest-kept d i best least rival e f g h = rw (add-one, ← e, ← f, ← g, h)

pub distance-ext : (x y c d : ℕ → Float) (w : ℕ) → ((j : ℕ) → j < w → x j ≡ y j) → ((j : ℕ) → j < w → c j ≡ d j) → distance x c w ≡ distance y d w
distance-ext x y c d w e f = ap worked (squared-ext x y c d w e f)

-- the choice depends on the values alone
pub chosen-ext : (x y : ℕ → Float) (cs : List Float) (w n : ℕ) → ((j : ℕ) → j < w → x j ≡ y j) → chosen x cs w n ≡ chosen y cs w n
chosen-ext x y cs w n e =
    nearest-ext (distance_to x cs w) (distance_to y cs w) n (λ i. distance-ext x y (coordinate cs w i) (coordinate cs w i) w e (λ j h. refl))
