-- Laws on lists that stand one after the other in a flat buffer: of unequal lengths, and of one width w.
use Prim.Native.Nat.{ℕ, zero, suc, ◌+◌, ◌*◌, ◌-◌, ◌≤◌, ◌<◌}
use mathlib.Core.Path.{◌≡◌, refl, sym, ◌∙◌, ap, ap₂}
use mathlib.Core.List.{List, [], ◌∷◌, ◌++◌, append_assoc, append-nil}
use native.Mathlib.Nat.{suc-mul, zero-mul, mul-le-mul_right, zero-add, suc-add}
use native.Mathlib.Numerals.{add-one}
use native.Mathlib.Decide.{dec_lt}
use native.Mathlib.Omega.{arith}
use lib.ListN.{length, take, drop, get_or, set, length-append, length-drop, drop_of_length-le}
use lib.Seq.{take_all, take-add, drop-drop, drop-length, get_or-drop, set-append_left}
use Rattle.lists.specs.Lists.{part, put_part, tab, fill, join, grid, strip}
use Rattle.lists.proofs.Tables.{last_or, length-tab, tab-ext, get_or-tab, tab-get_or, tab-set, fill-add}
use Rattle.lists.proofs.Parts.{part-append, part-seam, put-append, put-seam, get_or-part}

-- list i of g begins at `at i`
pub record Begins {ℓ} {A : Type ℓ} (g : ℕ → List A) (at : ℕ → ℕ) : Type ℓ where
  pub first : at 0 ≡ 0
  pub next : (i : ℕ) → at (suc i) ≡ at i + length (g i)

module _ {ℓ} {A : Type ℓ} (g : ℕ → List A) (at : ℕ → ℕ) (b : Begins g at) where
  pub length-join : (n : ℕ) → length (join g n) ≡ at n
  unfolding join
  length-join zero = sym b.first
  length-join (suc n) = length-append (join g n) (g n) ∙ ap (λ (x : ℕ). x + length (g n)) (length-join n) ∙ sym (b.next n)

  -- list i lies within the first n
  pub within-join : (n i : ℕ) → i < n → at i + length (g i) ≤ at n
  within-join zero i h = absurd (omega arith)
  within-join (suc n) i h = last_or i n h (λ e. rw e (omega (arith, b.next n))) (λ k. omega (arith, b.next n, within-join n i k))

  pub part_join : (n i : ℕ) → i < n → part (join g n) (at i) (length (g i)) ≡ g i
  unfolding join
  part_join zero i h = absurd (omega arith)
  part_join (suc n) i h =
      let l = length-join n in
      last_or i n h
      (λ e. rw e (part-seam (join g n) (g n) (at n) (length (g n)) l ∙ take_all (length (g n)) (g n) (omega arith)))
      (λ k. part-append (join g n) (g n) (at i) (length (g i)) (omega (arith, within-join n i k)) ∙ part_join n i k)

  pub get_or-join : (n i j : ℕ) (d : A) → i < n → j < length (g i) → get_or (join g n) (at i + j) d ≡ get_or (g i) j d
  get_or-join n i j d h k = sym (get_or-part (join g n) (at i) (length (g i)) j d k) ∙ ap (λ (l : List A). get_or l j d) (part_join n i h)

  -- each place is one of a list
  pub in_list : (n p : ℕ) → p < at n → (i : ℕ) × (j : ℕ) × (i < n) × (j < length (g i)) × (at i + j ≡ p)
  in_list zero p h = absurd (omega (arith, b.first))
  in_list (suc n) p h = elim (dec_lt p (at n)) [
    | yes k ↦ let s = in_list n p k in (s.0, s.1, omega arith, s.3, s.4)
    | no k ↦ (n, p - at n, omega arith, omega (arith, b.next n), omega arith)
  ]

  -- A loop that fills o from the front, a list a turn: none is stored, one more is stored, what is not yet stored is what was there, and o is full.
  pub join-none : (o : List A) → o ≡ join g 0 ++ drop (at 0) o
  unfolding join
  join-none o = rw b.first

  pub join_step : (k w : ℕ) (o out p : List A) → out ≡ join g k ++ drop (at k) o → p ≡ g k → length (g k) ≡ w
      → put_part out (at k) w p ≡ join g (k + 1) ++ drop (at (k + 1)) o
  unfolding join
  join_step k w o out p e f l =
      rw (e, f, put-seam (join g k) (drop (at k) o) (g k) (at k) w (length-join k), add-one, b.next k, l, drop-drop) (sym (append_assoc (join g k) (g k) _))

  pub join-rest : (k w : ℕ) (o out : List A) → out ≡ join g k ++ drop (at k) o → part out (at k) w ≡ part o (at k) w
  unfolding part
  join-rest k w o out e = rw e (part-seam (join g k) (drop (at k) o) (at k) w (length-join k))

  pub join-done : (k n : ℕ) (o out : List A) → out ≡ join g k ++ drop (at k) o → k ≡ n → length o ≤ at n → out ≡ join g n
  join-done k n o out e p l = e ∙ rw (p, drop_of_length-le o l, append-nil)

module _ {ℓ} {A : Type ℓ} where
  pub join-ext : (g g' : ℕ → List A) (n : ℕ) → ((i : ℕ) → i < n → g i ≡ g' i) → join g n ≡ join g' n
  unfolding join
  join-ext g g' zero e = refl
  join-ext g g' (suc n) e = ap₂ (λ (x y : List A). x ++ y) (join-ext g g' n (λ i h. e i (omega arith))) (e n (omega arith))

  -- a list put in at the place of list a, where g' is g but there
  pub put-join : (g g' : ℕ → List A) (at : ℕ → ℕ) → Begins g at → (n a : ℕ) → a < n → ((i : ℕ) → (i ≡ a → ⊥) → g i ≡ g' i)
      → put_part (join g n) (at a) (length (g a)) (g' a) ≡ join g' n
  unfolding join
  put-join g g' at b zero a h e = absurd (omega arith)
  put-join g g' at b (suc n) a h e =
      let l = length-join g at b n in
      last_or a n h
      (λ p. rw p (put-seam (join g n) (g n) (g' n) (at n) (length (g n)) l
      ∙ ap₂ (λ (x y : List A). x ++ (g' n ++ y)) (join-ext g g' n (λ i k. e i (omega arith))) (drop-length (g n))
      ∙ rw append-nil))
      (λ k. put-append (join g n) (g n) (g' a) (at a) (length (g a)) (omega (arith, within-join g at b n a k))
      ∙ ap₂ (λ (x y : List A). x ++ y) (put-join g g' at b n a k e) (e n (omega arith)))

-- stretch i of n lies within n * w
pub within : (i n w : ℕ) → i < n → i * w + w ≤ n * w
within i n w h = rw (← suc-mul i w) (mul-le-mul_right w h)

module _ {ℓ} {A : Type ℓ} where
  -- stretch i of width w begins at i * w
  pub evenly : (g : ℕ → ℕ → A) (w : ℕ) → Begins (strip g w) (λ (i : ℕ). i * w)
  evenly g w = record { first = zero-mul w; next = λ i. suc-mul i w ∙ ap (λ (x : ℕ). i * w + x) (sym (length-tab (g i) w)) }

  pub length-grid : (g : ℕ → ℕ → A) (n w : ℕ) → length (grid g n w) ≡ n * w
  length-grid g n w = length-join (strip g w) (λ (i : ℕ). i * w) (evenly g w) n

  pub grid-ext : (g g' : ℕ → ℕ → A) (n w : ℕ) → ((i : ℕ) → i < n → (j : ℕ) → j < w → g i j ≡ g' i j) → grid g n w ≡ grid g' n w
  grid-ext g g' n w e = join-ext (strip g w) (strip g' w) n (λ i h. tab-ext (g i) (g' i) w (e i h))

  pub part-grid : (g : ℕ → ℕ → A) (n w i : ℕ) → i < n → part (grid g n w) (i * w) w ≡ tab (g i) w
  part-grid g n w i h = rw (length-tab) at (part_join (strip g w) (λ (i : ℕ). i * w) (evenly g w) n i h)

  pub get_or-grid : (g : ℕ → ℕ → A) (n w i j : ℕ) (d : A) → i < n → j < w → get_or (grid g n w) (i * w + j) d ≡ g i j
  get_or-grid g n w i j d h k =
      sym (get_or-part (grid g n w) (i * w) w j d k) ∙ ap (λ (l : List A). get_or l j d) (part-grid g n w i h) ∙ get_or-tab (g i) w j d k

  -- a stretch put in at a, where g' is g but there
  pub put-grid : (g g' : ℕ → ℕ → A) (n w a : ℕ) → a < n → ((i : ℕ) → (i ≡ a → ⊥) → (j : ℕ) → j < w → g i j ≡ g' i j)
      → put_part (grid g n w) (a * w) w (tab (g' a) w) ≡ grid g' n w
  put-grid g g' n w a h e =
      rw (length-tab) at (put-join (strip g w) (strip g' w) (λ (i : ℕ). i * w) (evenly g w) n a h (λ i p. tab-ext (g i) (g' i) w (e i p)))

  -- A loop that fills o from the front, a stretch a turn.
  pub grid-none : (g : ℕ → ℕ → A) (w : ℕ) (o : List A) → o ≡ grid g 0 w ++ drop (0 * w) o
  grid-none g w o = join-none (strip g w) (λ (i : ℕ). i * w) (evenly g w) o

  pub grid-step : (g : ℕ → ℕ → A) (k w : ℕ) (o out p : List A) → out ≡ grid g k w ++ drop (k * w) o → p ≡ tab (g k) w
      → put_part out (k * w) w p ≡ grid g (k + 1) w ++ drop ((k + 1) * w) o
  grid-step g k w o out p e f = join_step (strip g w) (λ (i : ℕ). i * w) (evenly g w) k w o out p e f (length-tab (g k) w)

  pub grid-rest : (g : ℕ → ℕ → A) (k w : ℕ) (o out : List A) → out ≡ grid g k w ++ drop (k * w) o → part out (k * w) w ≡ part o (k * w) w
  grid-rest g k w o out e = join-rest (strip g w) (λ (i : ℕ). i * w) (evenly g w) k w o out e

  pub grid-done : (g : ℕ → ℕ → A) (k n w : ℕ) (o out : List A) → out ≡ grid g k w ++ drop (k * w) o → k ≡ n → length o ≤ n * w → out ≡ grid g n w
  grid-done g k n w o out e p l = join-done (strip g w) (λ (i : ℕ). i * w) (evenly g w) k n o out e p l

  -- one value everywhere
  pub grid-fill : (v : A) (n w : ℕ) → fill v (n * w) ≡ grid (λ (i j : ℕ). v) n w
  unfolding join tab
  grid-fill v zero w = rw zero-mul
  grid-fill v (suc n) w = rw suc-mul (fill-add v (n * w) w ∙ ap (λ (t : List A). t ++ fill v w) (grid-fill v n w))

  -- a list as a grid of its elements
  grid-take : (l : List A) (n w : ℕ) (d : A) → n * w ≤ length l → grid (λ (i j : ℕ). get_or l (i * w + j) d) n w ≡ take (n * w) l
  unfolding join
  grid-take l zero w d h = rw zero-mul
  grid-take l (suc n) w d h =
      let m : n * w + w ≤ length l = omega (arith, suc-mul n w) in
      let p : tab (λ (j : ℕ). get_or l (n * w + j) d) w ≡ take w (drop (n * w) l) =
      tab-ext _ _ w (λ j k. sym (get_or-drop (n * w) l j d)) ∙ tab-get_or (drop (n * w) l) w d (omega (arith, length-drop (n * w) l))
      in
      rw (suc-mul, take-add (n * w) w l) (ap₂ (λ (x y : List A). x ++ y) (grid-take l n w d (omega arith)) p)

  pub grid-self : (l : List A) (n w : ℕ) (d : A) → length l ≡ n * w → l ≡ grid (λ (i j : ℕ). get_or l (i * w + j) d) n w
  grid-self l n w d e = sym (grid-take l n w d (omega arith) ∙ take_all (n * w) l (omega arith))

  set_append_right : (xs ys : List A) (b : ℕ) (v : A) → set (xs ++ ys) (length xs + b) v ≡ xs ++ set ys b v
  set_append_right [] ys b v = rw zero-add
  set_append_right (x ∷ xs) ys b v = rw suc-add (ap (λ (l : List A). x ∷ l) (set_append_right xs ys b v))

  -- a store to element b of stretch a, where g' is g but there
  pub set-grid : (g g' : ℕ → ℕ → A) (n w a b : ℕ) → a < n → b < w → ((i j : ℕ) → ((i ≡ a) × (j ≡ b) → ⊥) → g i j ≡ g' i j)
      → set (grid g n w) (a * w + b) (g' a b) ≡ grid g' n w
  unfolding join
  set-grid g g' zero w a b h k e = absurd (omega arith)
  set-grid g g' (suc n) w a b h k e =
      let l = length-grid g n w in
      last_or a n h
      (λ p. rw (p, ← l) (set_append_right (grid g n w) (tab (g n) w) b (g' n b))
      ∙ ap₂ (λ (x y : List A). x ++ y) (grid-ext g g' n w (λ i q j r. e i j (λ z. omega arith))) (tab-set (g n) (g' n) w b k (λ j q. e n j (λ z. q z.1))))
      (λ p. set-append_left (grid g n w) (tab (g n) w) (a * w + b) (g' a b) (omega (arith, within a n w p))
      ∙ ap₂ (λ (x y : List A). x ++ y) (set-grid g g' n w a b p k e) (tab-ext (g n) (g' n) w (λ j q. e n j (λ z. omega arith))))
