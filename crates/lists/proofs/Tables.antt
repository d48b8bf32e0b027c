-- Laws on lists that are given by their elements: what a loop leaves that fills one from the front, and what a store leaves.
use Prim.Native.Nat.{ℕ, zero, suc, ◌+◌, ◌≤◌, ◌<◌}
use mathlib.Core.Path.{◌≡◌, refl, sym, ◌∙◌, ap, ap₂}
use mathlib.Core.Logic.{⊎_elim}
use mathlib.Core.List.{List, [], ◌∷◌, ◌++◌, append_assoc, append-nil, map, map-append}
use native.Mathlib.Nat.{eq-or-lt_of_le, le_of_suc-le-suc, add-zero, add-suc}
use native.Mathlib.Numerals.{add-one}
use native.Mathlib.Omega.{arith}
use lib.ListN.{length, take, drop, set, get_or, replicate, length-append, length-take, length-replicate, get_or-replicate, drop_of_length-le, get_or-append}
use lib.Seq.{drop-cons, set_at, set-append_left, get_or_at, get_or-append-add, get_or-drop, get_or-take, take-suc, ext_get_or}
use Rattle.lists.specs.Lists.{tab, fill}

-- i is the last of n + 1 or one of the n before
pub last_or {ℓ} : {B : Type ℓ} (i n : ℕ) → i < suc n → (i ≡ n → B) → (i < n → B) → B
last_or i n h f g = ⊎_elim f g (eq-or-lt_of_le (le_of_suc-le-suc h))

module _ {ℓ} {A : Type ℓ} where
  pub length-tab : (g : ℕ → A) (n : ℕ) → length (tab g n) ≡ n
  unfolding tab
  length-tab g zero = refl
  length-tab g (suc n) = length-append (tab g n) (g n ∷ []) ∙ ap (λ (k : ℕ). k + 1) (length-tab g n) ∙ add-one n

  pub tab-ext : (g g' : ℕ → A) (n : ℕ) → ((i : ℕ) → i < n → g i ≡ g' i) → tab g n ≡ tab g' n
  unfolding tab
  tab-ext g g' zero e = refl
  tab-ext g g' (suc n) e = ap₂ (λ (l : List A) (v : A). l ++ (v ∷ [])) (tab-ext g g' n (λ i h. e i (omega arith))) (e n (omega arith))

  pub get_or-tab : (g : ℕ → A) (n i : ℕ) (d : A) → i < n → get_or (tab g n) i d ≡ g i
  unfolding tab
  get_or-tab g zero i d h = absurd (omega arith)
  get_or-tab g (suc n) i d h =
      let l = length-tab g n in
      last_or i n h
      (λ e. rw e (get_or_at (tab g n) (g n) [] d n l))
      (λ k. get_or-append (tab g n) (g n ∷ []) d i (omega arith) ∙ get_or-tab g n i d k)

  pub drop-tab : (g : ℕ → A) (n i : ℕ) → i < n → drop i (tab g n) ≡ g i ∷ drop (i + 1) (tab g n)
  drop-tab g n i h =
      let l : i < length (tab g n) = omega (arith, length-tab g n) in
      drop-cons (tab g n) i (g i) l ∙ rw (add-one, get_or-tab g n i (g i) h)

  -- the first n of a list, by its elements
  pub tab-get_or : (l : List A) (n : ℕ) (d : A) → n ≤ length l → tab (λ (i : ℕ). get_or l i d) n ≡ take n l
  unfolding tab
  tab-get_or l zero d h = refl
  tab-get_or l (suc n) d h = ap (λ (t : List A). t ++ (get_or l n d ∷ [])) (tab-get_or l n d (omega arith)) ∙ sym (take-suc l n d h)

  -- a store at a, where g' is g but at a
  pub tab-set : (g g' : ℕ → A) (n a : ℕ) → a < n → ((i : ℕ) → (i ≡ a → ⊥) → g i ≡ g' i) → set (tab g n) a (g' a) ≡ tab g' n
  unfolding tab
  tab-set g g' zero a h e = absurd (omega arith)
  tab-set g g' (suc n) a h e =
      let l = length-tab g n in
      last_or a n h
      (λ p. rw p (set_at (tab g n) (g n) [] (g' n) n l) ∙ ap (λ (t : List A). t ++ (g' n ∷ [])) (tab-ext g g' n (λ i k. e i (omega arith))))
      (λ k. set-append_left (tab g n) (g n ∷ []) a (g' a) (omega arith) ∙ ap₂ (λ (t : List A) (v : A). t ++ (v ∷ [])) (tab-set g g' n a k e) (e n (omega arith)))

  pub fill-add : (v : A) (a b : ℕ) → fill v (a + b) ≡ fill v a ++ fill v b
  unfolding tab
  fill-add v a zero = rw (add-zero, append-nil)
  fill-add v a (suc b) = rw add-suc (ap (λ (t : List A). t ++ (v ∷ [])) (fill-add v a b) ∙ append_assoc (fill v a) (fill v b) (v ∷ []))

  -- A loop that fills o from the front: nothing is stored, one more is stored, what is not yet stored is what was there, and o is full.
  pub tab-none : (g : ℕ → A) (o : List A) → o ≡ tab g 0 ++ drop 0 o
  unfolding tab
  tab-none g o = refl

  tab-more : (g : ℕ → A) (i : ℕ) (o : List A) (d : A) → i < length o → set (tab g i ++ drop i o) i (g i) ≡ tab g (i + 1) ++ drop (i + 1) o
  unfolding tab
  tab-more g i o d h = rw (add-one, drop-cons o i d) (set_at (tab g i) _ _ (g i) i (length-tab g i) ∙ sym (append_assoc (tab g i) (g i ∷ []) _))

  pub tab-step : (g : ℕ → A) (i : ℕ) (o out : List A) (v d : A) → i < length o → out ≡ tab g i ++ drop i o → v ≡ g i → set out i v ≡ tab g (i + 1) ++ drop (i + 1) o
  tab-step g i o out v d h e f = rw (e, f) (tab-more g i o d h)

  pub tab-rest : (g : ℕ → A) (i : ℕ) (o out : List A) (d : A) → out ≡ tab g i ++ drop i o → get_or out i d ≡ get_or o i d
  tab-rest g i o out d e =
      let p : get_or (tab g i ++ drop i o) (length (tab g i) + 0) d ≡ get_or (drop i o) 0 d = get_or-append-add (tab g i) (drop i o) 0 d in
      rw e (rw (length-tab, add-zero) at p ∙ get_or-drop i o 0 d ∙ rw add-zero)

  pub tab-done : (g : ℕ → A) (i n : ℕ) (o out : List A) → out ≡ tab g i ++ drop i o → i ≤ n → n ≤ i → length o ≤ n → out ≡ tab g n
  tab-done g i n o out e h k l =
      let p : i ≡ n = omega arith in
      e ∙ rw (p, drop_of_length-le o l, append-nil)

pub map-tab {ℓ κ} : {A : Type ℓ} {B : Type κ} (f : A → B) (g : ℕ → A) (n : ℕ) → map f (tab g n) ≡ tab (λ (i : ℕ). f (g i)) n
unfolding tab
map-tab f g zero = refl
map-tab {B = B} f g (suc n) = map-append f (tab g n) (g n ∷ []) ∙ ap (λ (t : List B). t ++ (f (g n) ∷ [])) (map-tab f g n)

-- two maps that agree at each element; d stands past the list's end
pub map-ext {ℓ κ} : {A : Type ℓ} {B : Type κ} (d : A) (f g : A → B) (l : List A) → ((i : ℕ) → i < length l → f (get_or l i d) ≡ g (get_or l i d)) → map f l ≡ map g l
map-ext d f g [] e = refl
map-ext {B = B} d f g (x ∷ l) e = ap₂ (λ (y : B) (t : List B). y ∷ t) (e 0 (omega arith)) (map-ext d f g l (λ i h. e (suc i) (omega arith)))

-- the first w places of a fresh array
pub take-fresh {ℓ} : {A : Type ℓ} (v : A) (w n : ℕ) → w ≤ n → take w (replicate n v) ≡ fill v w
take-fresh v w n h =
    let l : length (take w (replicate n v)) ≡ w = length-take w (replicate n v) ∙ rw length-replicate (omega arith) in
    ext_get_or v (take w (replicate n v)) (fill v w) (l ∙ sym (length-tab (λ i. v) w))
    (λ i k. let k' : i < w = omega arith in get_or-take w (replicate n v) i v k' ∙ get_or-replicate n i v v (omega arith) ∙ sym (get_or-tab (λ i. v) w i v k'))
