-- The counts of all centres add up to the number of rows, and a split leaves their sum.
use Prim.Native.Nat.{ℕ, zero, suc, ◌+◌, ◌-◌, ◌/◌, ◌<◌}
use mathlib.Core.Path.{◌≡◌, refl, sym, ◌∙◌, ap}
use mathlib.Core.List.{List, [], ◌∷◌, ◌++◌}
use native.Mathlib.Decide.{ℕ_discrete}
use native.Mathlib.Omega.{arith}
use borrow.Author.Tests.{eq-eqb, ne_eqb}
use lib.ListN.{length, get_or, set, length-set}
use lib.Seq.{get_or-set_same, get_or-set_other}
use Rattle.lists.specs.Lists.{tab}
use Rattle.lists.specs.Tests.{count}
use Rattle.lists.proofs.Tables.{length-tab, get_or-tab, tab-set}
use Rattle.lists.proofs.Tests.{count-zero, count_yes, count_no}
use Rattle.kmeans_average.specs.Average.{is_of}
use Rattle.kmeans_split.specs.Split.{split_counts}
use Rattle.kmeans_split.specs.SplitFacts.{total}

total-set : (l : List ℕ) (i v : ℕ) → i < length l → total (set l i v) + get_or l i 0 ≡ total l + v
total-set [] i v h = absurd (omega arith)
total-set (x ∷ l) zero v h = omega arith
total-set (x ∷ l) (suc i) v h = omega (arith, total-set l i v (omega arith))

total-snoc : (l : List ℕ) (x : ℕ) → total (l ++ (x ∷ [])) ≡ total l + x
total-snoc [] x = omega arith
total-snoc (y ∷ l) x = omega (arith, total-snoc l x)

total-zeros : (f : ℕ → ℕ) (n : ℕ) → ((i : ℕ) → f i ≡ 0) → total (tab f n) ≡ 0
unfolding tab
total-zeros f zero e = refl
total-zeros f (suc n) e = total-snoc (tab f n) (f n) ∙ omega (arith, e n, total-zeros f n e)

-- rows that are all assigned below m: the counts of m centres add up to the number of rows
pub total-counts : (to : List ℕ) (n m : ℕ) → ((k : ℕ) → k < n → get_or to k 0 < m) → total (tab (λ (i : ℕ). count (is_of to i) n) m) ≡ n
total-counts to zero m h = total-zeros (λ (i : ℕ). count (is_of to i) zero) m (λ i. count-zero (is_of to i))
total-counts to (suc n) m h =
    let a = get_or to n 0 in
    let f : ℕ → ℕ = λ i. count (is_of to i) n in
    let g : ℕ → ℕ = λ i. count (is_of to i) (suc n) in
    let s : set (tab f m) a (g a) ≡ tab g m = tab-set f g m a (h n (omega arith)) (λ i p. sym (count_no (is_of to i) n (ne_eqb a i (λ q. p (sym q))))) in
    let y : g a ≡ suc (f a) = count_yes (is_of to a) n (eq-eqb a a refl) in
    let e = total-set (tab f m) a (g a) (omega (arith, length-tab f m, h n (omega arith))) in
    omega (arith, ap total s, e, y, get_or-tab f m a 0 (h n (omega arith)), total-counts to n m (λ k l. h k (omega arith)))

-- a split leaves the total
pub total-split : (l : List ℕ) (i a : ℕ) → i < length l → a < length l → get_or l i 0 ≡ 0 → total (split_counts l i a) ≡ total l
unfolding split_counts
total-split l i a h k z =
    let c = get_or l a 0 in
    let p = total-set l i (c / 2) h in
    let q = total-set (set l i (c / 2)) a (c - c / 2) (rw length-set k) in
    let r : get_or (set l i (c / 2)) a 0 ≡ c = elim (ℕ_discrete a i) [ yes e ↦ rw (e, z) (get_or-set_same l i 0 0 h) | no n ↦ get_or-set_other l i a (c / 2) 0 n ] in
    omega (arith, p, q, r)

pub length-split : (l : List ℕ) (i a : ℕ) → length (split_counts l i a) ≡ length l
unfolding split_counts
length-split l i a = simp length-set
