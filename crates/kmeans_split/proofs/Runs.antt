-- The run of a split, as its code goes: centre by centre, and no further from a refusal on.
use Prim.Native.Nat.{ℕ, zero, suc, ◌+◌, ◌≤◌, ◌<◌}
use mathlib.Core.Path.{◌≡◌, refl, sym, ◌∙◌, subst}
use mathlib.Core.Bool.{Bool, cond, ◌&&◌}
use mathlib.Core.List.{List}
use native.Mathlib.Decide.{dec_le}
use native.Mathlib.Omega.{arith}
use native.Mathlib.Numerals.{add-one}
use lib.Ieee.{Float}
use Rattle.std.specs.Prelude.{Some, None, Ok, Err}
use Rattle.answers.specs.declared.Step.TheVariants.{Splitting}
use Rattle.answers.specs.declared.Unclustered.TheVariants.{OutOfDraws, NotFinite}
use Rattle.answers.specs.Answers.{Clustered}
use Rattle.kmeans_assign.specs.declared.Given.{Given}
use Rattle.kmeans_assign.specs.Task.{task_given, Task}
use Rattle.kmeans_average.specs.Finite.{finite_center}
use Rattle.kmeans_split.specs.Split.{split_centers, split_counts, split_off, walk_at, steps_of, fill_center, fill_if_empty, split_to, split_task}
use Rattle.kmeans_split.specs.Run.{Run, run_of, refused_with, onward_by, Reached}

-- a run that equals a definition's says what that one says
pub reached : {r d : Run} → r ≡ d → Reached r d
reached e = record { run = e; said = λ stage. rw e }

-- what splitting centre i off the donor a leaves, where b says that both are finite
pub split-run : (t : Task) (epoch i a used : ℕ) (cs now : List Float) (to counts now' : List ℕ) (q : Clustered) → now ≡ split_centers cs t.w i a → now' ≡ split_counts counts i a
    → (b : Bool) → b ≡ (finite_center now t.w i && finite_center now t.w a)
    → run_of (cond b (Ok used) (Err (NotFinite Splitting epoch i))) now to now' ≡ split_off t epoch i a used (run_of q cs to counts)
unfolding split_off
split-run t epoch i a used cs now to counts now' q e f b g = rw (g, e, f)

-- an empty centre is filled, or the draws end first
pub fill-split : (t : Task) (epoch i used s : ℕ) (r q : Run) → Some s ≡ steps_of t r.counts used i → q ≡ split_off t epoch i (walk_at t i s) (used + s + 1) r
    → q ≡ fill_center t epoch i used r
unfolding fill_center
fill-split t epoch i used s r q e f = f ∙ rw (← e)

pub fill-out : (t : Task) (epoch i used : ℕ) (r : Run) → None ≡ steps_of t r.counts used i → refused_with (OutOfDraws epoch i) r ≡ fill_center t epoch i used r
unfolding fill_center
fill-out t epoch i used r e = rw (← e)

-- an answer that is no refusal names the draws used
abbrev pub NotDone : Clustered → Type 0
NotDone (Ok used) = ⊥
NotDone (Err why) = Unit {0}

pub stays : (c : Clustered) (r : Run) (next : ℕ → Run) → NotDone c → onward_by c r next ≡ r
stays (Ok used) r next h = absurd h
stays (Err why) r next h = refl

-- from a refusal on, splitting changes nothing
pub split_stays : (t : Task) (epoch : ℕ) (r : Run) (i n : ℕ) → i ≤ n → NotDone (split_to t epoch r i).answer → split_to t epoch r n ≡ split_to t epoch r i
unfolding split_to
split_stays t epoch r i zero h d = let e : i ≡ 0 = omega arith in rw e
split_stays t epoch r i (suc n) h d = elim (dec_le i n) [
  | yes k ↦ rw (split_stays t epoch r i n k d) (stays (split_to t epoch r i).answer (split_to t epoch r i) _ d)
  | no k ↦ let e : i ≡ suc n = omega arith in rw e
]

-- one more centre, after i of them without a refusal
pub split_step : (t : Task) (epoch at i : ℕ) (r q p : Run) → q ≡ split_to t epoch r i → q.answer ≡ Ok at → p ≡ fill_if_empty t epoch i q at → p ≡ split_to t epoch r (i + 1)
unfolding split_to
split_step t epoch at i r q p e d f = f ∙ rw (add-one, ← e, d)

-- a refusal at centre i is the split's
pub split-refused : (t : Task) (epoch at i n : ℕ) (r q p : Run) → q ≡ split_to t epoch r i → q.answer ≡ Ok at → p ≡ fill_if_empty t epoch i q at → NotDone p.answer → i < n
    → p ≡ split_to t epoch r n
split-refused t epoch at i n r q p e d f g h =
    let k = split_step t epoch at i r q p e d f in
    k ∙ sym (split_stays t epoch r (i + 1) n (omega arith) (subst (λ (z : Run). NotDone z.answer) k g))

pub split-none : (t : Task) (epoch : ℕ) (r : Run) → split_to t epoch r 0 ≡ r
unfolding split_to
split-none t epoch r = refl

-- splitting looks at no rows
pub split-same : (g : Given) (draws : List Float) (epochs epoch : ℕ) (r : Run) (i : ℕ)
    → split_to (split_task g.frame draws) epoch r i ≡ split_to (task_given g epochs draws) epoch r i
unfolding split_to fill_center split_off
split-same g draws epochs epoch r zero = refl
split-same g draws epochs epoch r (suc i) = rw (split-same g draws epochs epoch r i)
