-- What each filling of an empty centre keeps, a split keeps: the sum of the counts, the draws used, the length of the centres.
use Prim.Native.Nat.{ℕ, zero, suc, ◌+◌, ◌*◌, ◌≤◌, ◌<◌}
use mathlib.Core.Path.{◌≡◌, refl, ◌∙◌}
use mathlib.Core.Bool.{Bool, true, false, cond, ◌&&◌}
use native.Mathlib.Omega.{arith}
use borrow.Author.Tests.{eqb-true}
use lib.ListN.{length, get_or}
use lib.Dec.{eqb}
use Rattle.lists.specs.Lists.{tab, put_part}
use Rattle.lists.proofs.Parts.{length-put_part}
use Rattle.lists.proofs.Joins.{within}
use Rattle.lists.proofs.Tables.{length-tab}
use Rattle.std.specs.Prelude.{Option, Some, None, Ok, Err}
use Rattle.answers.specs.Answers.{Clustered}
use Rattle.kmeans_assign.specs.Task.{Task}
use Rattle.kmeans_split.specs.Run.{Run, refused_with, onward_by}
use Rattle.kmeans_average.specs.Finite.{finite_center}
use Rattle.kmeans_average.proofs.Finite.{lowest-below}
use Rattle.answers.specs.declared.Unclustered.TheVariants.{OutOfDraws}
use Rattle.kmeans_split.specs.Split.{walk_at, draws_left, taken_at, steps_of, split_centers, split_off, walked, fill_center, fill_if_empty, split_to, got_at, left_at}
use Rattle.metrics.specs.Distance.{coordinate}
use Rattle.kmeans_split.specs.SplitFacts.{Counted, Drawn}
use Rattle.kmeans_split.proofs.Counts.{length-split, total-split}
use Rattle.kmeans_split.proofs.Donor.{walk-below}

-- P holds of what is taken
pub either {ℓ} : {A : Type ℓ} (P : A → Type 0) (b : Bool) {x y : A} → (b ≡ true → P x) → P y → P (cond b x y)
either P true p q = p refl
either P false p q = q

-- what the filling of one empty centre keeps, the splits of the first m centres keep
module _ (t : Task) (epoch : ℕ) (P : Run → Type 0)
    (fills : (i used : ℕ) (r : Run) → i < t.centers → r.answer ≡ Ok used → get_or r.counts i 0 ≡ 0 → P r → P (fill_center t epoch i used r)) where
  goes_on : (i : ℕ) (r : Run) → i < t.centers → P r → (c : Clustered) → r.answer ≡ c → P (onward_by c r (fill_if_empty t epoch i r))
  goes_on i r l p (Ok used) e = either P (eqb (get_or r.counts i 0) 0) (λ z. fills i used r l e (eqb-true (get_or r.counts i 0) 0 z) p) p
  goes_on i r l p (Err why) e = p

  pub split-keeps : (r : Run) → P r → (m : ℕ) → m ≤ t.centers → P (split_to t epoch r m)
  unfolding split_to
  split-keeps r p zero l = p
  split-keeps r p (suc m) l = goes_on m (split_to t epoch r m) l (split-keeps r p m (omega arith)) (split_to t epoch r m).answer refl

-- P holds of what the filling of an empty centre leaves, after s steps or where the draws end
pub filled : (P : Run → Type 0) (t : Task) (epoch i used : ℕ) (r : Run)
    → ((s : ℕ) → s < draws_left t used → P (split_off t epoch i (walk_at t i s) (used + s + 1) r)) → P (refused_with (OutOfDraws epoch i) r) → P (fill_center t epoch i used r)
unfolding fill_center
filled P t epoch i used r p q = go (steps_of t r.counts used i) refl
  where
    go : (o : Option ℕ) → steps_of t r.counts used i ≡ o → P (walked o (λ (s : ℕ). split_off t epoch i (walk_at t i s) (used + s + 1) r) (refused_with (OutOfDraws epoch i) r))
    go (Some s) e = p s (lowest-below (taken_at t r.counts used i) (draws_left t used) s e)
    go None e = q

-- ---- the counts

off-counted : (t : Task) (epoch i a used : ℕ) (r : Run) → i < t.centers → a < t.centers → get_or r.counts i 0 ≡ 0 → Counted t r
    → Counted t (split_off t epoch i a used r)
unfolding split_off
off-counted t epoch i a used r h k z c = record {
  each = length-split r.counts i a ∙ c.each;
  sum = total-split r.counts i a (omega (arith, c.each)) (omega (arith, c.each)) z ∙ c.sum;
}

pub fill-counted : (t : Task) (epoch i used : ℕ) (r : Run) → i < t.centers → get_or r.counts i 0 ≡ 0 → Counted t r → Counted t (fill_center t epoch i used r)
fill-counted t epoch i used r h z c =
    filled (Counted t) t epoch i used r (λ s l. off-counted t epoch i (walk_at t i s) (used + s + 1) r h (walk-below t i s h) z c) (record { each = c.each; sum = c.sum })

-- ---- the draws used

pub fill-drawn : (t : Task) (before epoch i used : ℕ) (r : Run) → Drawn before (length t.draws) (Ok used)
    → Drawn before (length t.draws) (fill_center t epoch i used r).answer
unfolding split_off
fill-drawn t before epoch i used r d =
    let Within : Clustered → Type 0 = λ c. Drawn before (length t.draws) c in
    filled (λ (q : Run). Within q.answer) t epoch i used r
    (λ s l.
    let cs = split_centers r.centers t.w i (walk_at t i s) in
    either Within (finite_center cs t.w i && finite_center cs t.w (walk_at t i s)) (λ f. omega arith) tt)
    tt

-- and after each centre of a split
pub split-drawn : (t : Task) (before epoch at i : ℕ) (r q : Run) → q ≡ split_to t epoch r i → q.answer ≡ Ok at → r.answer ≡ Ok before → i ≤ t.centers
    → before ≤ length t.draws → at ≤ length t.draws
split-drawn t before epoch at i r q e f g h d =
    let P : Run → Type 0 = λ p. Drawn before (length t.draws) p.answer in
    let w = split-keeps t epoch P (λ i u q l f z p. fill-drawn t before epoch i u q (rw f at p)) r (rw g (omega arith)) i h in
    (rw (← e, f) at w).1

-- ---- the length of the centres

-- the centres are always n_center stretches of the range's width
abbrev pub Sized : Task → Run → Type 0
Sized t r = length r.centers ≡ t.centers * t.w

pub fill-sized : (t : Task) (epoch i used : ℕ) (r : Run) → i < t.centers → Sized t r → Sized t (fill_center t epoch i used r)
unfolding split_off split_centers
fill-sized t epoch i used r h e =
    let w = t.w in
    filled (Sized t) t epoch i used r
    (λ s l.
    let a = walk_at t i s in
    let got = tab (got_at (coordinate r.centers w a)) w in
    let left = tab (left_at (coordinate r.centers w a)) w in
    let p : length (put_part r.centers (i * w) w got) ≡ length r.centers =
    length-put_part r.centers got (i * w) w (omega (arith, within i t.centers w h)) (length-tab (got_at (coordinate r.centers w a)) w)
    in
    length-put_part (put_part r.centers (i * w) w got) left (a * w) w (omega (arith, within a t.centers w (walk-below t i s h))) (length-tab (left_at (coordinate r.centers w a)) w) ∙ p ∙ e)
    e
