-- Laws on a part of a list, and on a list with a part put in.
use Prim.Native.Nat.{ℕ, suc, ◌+◌, ◌-◌, ◌≤◌, ◌<◌, min}
use mathlib.Core.Path.{◌≡◌, sym, ◌∙◌}
use mathlib.Core.List.{List, [], ◌∷◌, ◌++◌, append_assoc}
use native.Mathlib.Nat.{add-sub_cancel_left}
use native.Mathlib.Omega.{arith}
use lib.ListN.{length, take, drop, set, get_or, length-append, length-take, length-drop, get_or-append, take-append-drop}
use lib.Seq.{length-take-le, take-append-le, drop-append-le, take_at, drop_at, take_all, get_or-take, get_or-drop, get_or-append-add, drop-cons, set_at, take-set-le, drop-set-add, set-append_left}
use Rattle.lists.specs.Lists.{part, put_part}

module _ {ℓ} {A : Type ℓ} where
  pub length-part : (s : List A) (a w : ℕ) → a + w ≤ length s → length (part s a w) ≡ w
  unfolding part
  length-part s a w h = simp (length-take, length-drop) (omega arith)

  pub get_or-part : (s : List A) (a w j : ℕ) (d : A) → j < w → get_or (part s a w) j d ≡ get_or s (a + j) d
  unfolding part
  get_or-part s a w j d h = get_or-take w (drop a s) j d h ∙ get_or-drop a s j d

  -- a place of the part is one of the list
  pub within-part : (s : List A) (a w j : ℕ) → j < length (part s a w) → (j < w) × (a + j < length s)
  unfolding part
  within-part s a w j h = let k : j < min w (length s - a) = simp (length-take, length-drop) at h in omega arith

  -- the whole of a list
  pub part-all : (s : List A) (w : ℕ) → length s ≡ w → part s 0 w ≡ s
  unfolding part
  part-all s w e = take_all w s (omega arith)

  pub length-put_part : (s p : List A) (a w : ℕ) → a + w ≤ length s → length p ≡ w → length (put_part s a w p) ≡ length s
  unfolding put_part
  length-put_part s p a w h e =
      length-append (take a s) (p ++ drop w (drop a s)) ∙ simp (length-take, length-append, length-drop) (omega arith)

  -- an element of the part that was put in, and one outside of it
  pub get_or-put_part-in : (s p : List A) (a w j : ℕ) (d : A) → a ≤ length s → length p ≡ w → j < w → get_or (put_part s a w p) (a + j) d ≡ get_or p j d
  unfolding put_part
  get_or-put_part-in s p a w j d h e k =
      let l = length-take-le a s h in
      let q = get_or-append-add (take a s) (p ++ drop w (drop a s)) j d in
      rw l at q ∙ get_or-append p (drop w (drop a s)) d j (omega arith)

  pub get_or-put_part-before : (s p : List A) (a w x : ℕ) (d : A) → a ≤ length s → x < a → get_or (put_part s a w p) x d ≡ get_or s x d
  unfolding put_part
  get_or-put_part-before s p a w x d h k =
      let l = length-take-le a s h in
      get_or-append (take a s) (p ++ drop w (drop a s)) d x (omega arith) ∙ get_or-take a s x d k

  past : (s p : List A) (a w y : ℕ) (d : A) → a ≤ length s → length p ≡ w → get_or (put_part s a w p) (a + (w + y)) d ≡ get_or s (a + (w + y)) d
  unfolding put_part
  past s p a w y d h e =
      let l = length-take-le a s h in
      let q = get_or-append-add (take a s) (p ++ drop w (drop a s)) (w + y) d in
      let r = get_or-append-add p (drop w (drop a s)) y d in
      rw l at q ∙ rw e at r ∙ get_or-drop w (drop a s) y d ∙ get_or-drop a s (w + y) d

  pub get_or-put_part-after : (s p : List A) (a w x : ℕ) (d : A) → a ≤ length s → length p ≡ w → a + w ≤ x → get_or (put_part s a w p) x d ≡ get_or s x d
  get_or-put_part-after s p a w x d h e k =
      let q : x ≡ a + (w + (x - (a + w))) = omega arith in
      rw q (past s p a w (x - (a + w)) d h e)

  -- a seam: where the part stands at the end of a list, or before the seam
  pub part-append : (xs ys : List A) (a w : ℕ) → a + w ≤ length xs → part (xs ++ ys) a w ≡ part xs a w
  unfolding part
  part-append xs ys a w h =
      let p : a ≤ length xs = omega arith in
      let q : w ≤ length (drop a xs) = omega (arith, length-drop a xs) in
      rw (drop-append-le, take-append-le)

  pub part-seam : (xs ys : List A) (a w : ℕ) → length xs ≡ a → part (xs ++ ys) a w ≡ take w ys
  unfolding part
  part-seam xs ys a w l = rw (drop_at xs ys a l)

  pub put-append : (xs ys p : List A) (a w : ℕ) → a + w ≤ length xs → put_part (xs ++ ys) a w p ≡ put_part xs a w p ++ ys
  unfolding put_part
  put-append xs ys p a w h =
      let l : a ≤ length xs = omega arith in
      let q : w ≤ length (drop a xs) = omega (arith, length-drop a xs) in
      rw (take-append-le, drop-append-le a, drop-append-le w) (simp append_assoc)

  pub put-seam : (xs ys p : List A) (a w : ℕ) → length xs ≡ a → put_part (xs ++ ys) a w p ≡ xs ++ (p ++ drop w ys)
  unfolding put_part
  put-seam xs ys p a w l = rw (take_at xs ys a l, drop_at xs ys a l)

  -- A loop that puts a part in, an element a turn: none is in, and one more is in.
  pub put-none : (s : List A) (a : ℕ) → s ≡ put_part s a 0 []
  unfolding put_part
  put-none s a = sym (take-append-drop a s)

  pub put-more : (s p : List A) (a j : ℕ) (v d : A) → a + j < length s → length p ≡ j → set (put_part s a j p) (a + j) v ≡ put_part s a (suc j) (p ++ (v ∷ []))
  unfolding put_part
  put-more s p a j v d h e =
      let l : length (take a s ++ p) ≡ a + j = length-append (take a s) p ∙ simp length-take (omega arith) in
      let q : drop j (drop a s) ≡ get_or (drop a s) j d ∷ drop (suc j) (drop a s) = drop-cons (drop a s) j d (omega (arith, length-drop a s)) in
      rw (q, ← append_assoc (take a s) p (get_or (drop a s) j d ∷ drop (suc j) (drop a s)))
      (set_at (take a s ++ p) (get_or (drop a s) j d) (drop (suc j) (drop a s)) v (a + j) l ∙ simp append_assoc)

  -- a part that was put in, taken out again
  pub part-put : (s p : List A) (a w : ℕ) → a ≤ length s → length p ≡ w → part (put_part s a w p) a w ≡ p
  unfolding part put_part
  part-put s p a w h e =
      let l : length (take a s) ≡ a = simp length-take (omega arith) in
      rw (drop_at (take a s) (p ++ drop w (drop a s)) a l) (take_at p (drop w (drop a s)) w e)

  -- a store within a part that was put in
  pub set-put : (s p : List A) (a w j : ℕ) (v : A) → a ≤ length s → j < length p → set (put_part s a w p) (a + j) v ≡ put_part s a w (set p j v)
  unfolding put_part
  set-put s p a w j v h k =
      let l = length-take-le a s h in
      let t = p ++ drop w (drop a s) in
      let q = drop w (drop a s) in
      sym (take-append-drop a (set (take a s ++ t) (a + j) v))
      ∙ rw (take-set-le a (take a s ++ t) (a + j) v (omega arith), drop-set-add, take_at (take a s) t a l, drop_at (take a s) t a l, set-append_left p q j v k)

  -- the rest of a list from a on
  pub part-rest : (s : List A) (a : ℕ) → part s a (length s - a) ≡ drop a s
  unfolding part
  part-rest s a = take_all (length s - a) (drop a s) (omega (arith, length-drop a s))

  -- a slice from a up to e is the part of w elements from a on
  pub slice-part : (s : List A) (a e b w : ℕ) (l : List A) → e ≡ a + w → a ≡ b → part s b w ≡ l → take (e - a) (drop a s) ≡ l
  unfolding part
  slice-part s a e b w l p q r = rw (p, add-sub_cancel_left a w, q) r
