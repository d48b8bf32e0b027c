-- Laws on the codes test: the highest code of a run is below K where all are, and so are the codes of each row.
use Prim.Native.Nat.{ℕ, zero, suc, max, ◌+◌, ◌*◌, ◌≤◌, ◌<◌}
use mathlib.Core.Path.{◌≡◌, refl, ◌∙◌, ap}
use mathlib.Core.Bool.{Bool, true, false, cond, not, ◌&&◌, ◌||◌}
use mathlib.Core.List.{List}
use native.Mathlib.Omega.{arith}
use borrow.Author.Tests.{ltb-true, ltb-false, lt-ltb, le-ltb}
use lib.ListN.{length, take, drop, length-take, length-drop}
use lib.Seq.{get_or-drop, get_or-take}
use lib.Dec.{ltb}
use Rattle.lists.specs.Tests.{every}
use Rattle.lists.proofs.Tests.{every-ext, every_of, every_true}
use Rattle.lists.proofs.Joins.{within}
use Rattle.pq_params.specs.Bounds.{centers_of}
use Rattle.cell_table.specs.declared.CellView.{CellView}
use Rattle.cell_codes.specs.Codes.{row_at, visible, cell_of, codes_sound}
use Rattle.cell_codes.specs.CodesInner.{number_at, highest_of, under, codes_under, sound_at, Rows}
use Rattle.cell_codes.proofs.Shown.{unless-kept}

abbrev below : (ℕ → ℕ) → ℕ → ℕ → Bool
below g k i = ltb (g i) k

-- the larger of two is below k where both are
larger-below : (a b k : ℕ) → ltb (max a b) k ≡ (ltb a k && ltb b k)
larger-below a b k = go (ltb a k) refl (ltb b k) refl
  where
    go : (p : Bool) → ltb a k ≡ p → (q : Bool) → ltb b k ≡ q → ltb (max a b) k ≡ (p && q)
    go true e true f = let x = ltb-true a k e in let y = ltb-true b k f in lt-ltb _ _ (omega arith)
    go true e false f = let y = ltb-false b k f in le-ltb _ _ (omega arith)
    go false e q f = let x = ltb-false a k e in le-ltb _ _ (omega arith)

-- the highest is below k where all are
pub highest-below : (g : ℕ → ℕ) (k n : ℕ) → 0 < k → ltb (highest_of g n) k ≡ every (below g k) n
unfolding highest_of every
highest-below g k zero h = lt-ltb 0 k h
highest-below g k (suc n) h = larger-below (highest_of g n) (g n) k ∙ ap (λ (t : Bool). t && ltb (g n) k) (highest-below g k n h)

-- the codes of row m, as a part of all
pub part-under : (codes : List ℕ) (nsub centers m w : ℕ) → w ≡ nsub → m * nsub + nsub ≤ length codes → 0 < centers
    → ltb (highest_of (number_at (take w (drop (m * nsub) codes))) (length (take w (drop (m * nsub) codes)))) centers ≡ codes_under codes nsub centers m
part-under codes nsub centers m w e h k =
    let p = take w (drop (m * nsub) codes) in
    let l : length p ≡ nsub = length-take w (drop (m * nsub) codes) ∙ rw length-drop (omega arith) in
    highest-below (number_at p) centers (length p) k
    ∙ ap (every (below (number_at p) centers)) l
    ∙ every-ext _ _ nsub (λ s j. ap (λ (x : ℕ). ltb x centers) (get_or-take w (drop (m * nsub) codes) s 0 (omega arith) ∙ get_or-drop (m * nsub) codes s 0))

-- a row is sound where it is hidden, or its codes are below K
pub sound-or : (v b : Bool) → (not v || b) ≡ cond v b true
sound-or true b = refl
sound-or false b = refl

hidden_or : (v b : Bool) → b ≡ true → cond v b true ≡ true
hidden_or true b e = e
hidden_or false b e = refl

-- where all codes are below K, so are those of the shown rows
pub all_sound : (z : CellView) → Rows z → (centers : ℕ) → every (under z.codes.now centers) (length z.codes.now) ≡ true → every (sound_at z centers) z.n ≡ true
all_sound z R centers h =
    every_of _ z.n (λ i k. hidden_or (visible z.mask.now (row_at z i)) _ (row_under (row_at z i) (R.numbered.inside i k)))
  where
    row_under : (m : ℕ) → m < length z.mask.now → codes_under z.codes.now z.shape.nsub centers m ≡ true
    row_under m l =
        every_of _ z.shape.nsub
        (λ s j. every_true (under z.codes.now centers) (length z.codes.now) h (m * z.shape.nsub + s) (omega (arith, within m (length z.mask.now) z.shape.nsub l, R.codes-long)))

-- row by row is the test of the shown rows
pub sound-rows : (z : CellView) (centers : ℕ) → centers ≡ centers_of z.shape.bits → every (sound_at z centers) z.n ≡ codes_sound (cell_of z)
sound-rows z centers e = rw e (unless-kept (visible z.mask.now) (row_at z) (codes_under z.codes.now z.shape.nsub (centers_of z.shape.bits)) z.n)
