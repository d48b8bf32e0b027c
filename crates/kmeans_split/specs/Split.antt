-- k-means' step 5: split.
use Rattle.std.specs.Prelude.{ℕ, zero, suc, ◌+◌, ◌*◌, ◌-◌, ◌/◌, ◌%◌, ◌≤◌, ◌<◌, ◌≡◌, List, [], Bool, true, cond, ◌&&◌, Option, Some, None, Ok, Err, length, get_or, set, eqb, pos, Float}
use Rattle.std.specs.Float.{nan, binary32, binary64}
use Rattle.std.specs.Float.Ieee.{mul, div, lt, le, of_bits, of_int}
use Rattle.lists.specs.Lists.{tab, put_part}
use Rattle.metrics.specs.Distance.{coordinate}
use Rattle.answers.specs.declared.Step.TheVariants.{Splitting}
use Rattle.answers.specs.declared.Unclustered.TheVariants.{OutOfDraws, NotFinite}
use Rattle.kmeans_assign.specs.declared.Frame.{Frame}
use Rattle.kmeans_assign.specs.Task.{Task, task_of}
use Rattle.kmeans_average.specs.Finite.{finite_center, lowest}
use Rattle.kmeans_split.specs.Run.{Run, refused_with, onward}

-- count/n in f64
abbrev pub share_of : Task → List ℕ → ℕ → Float
share_of t counts a = div binary64 (of_int binary64 (pos (get_or counts a 0))) (of_int binary64 (pos t.n))

-- the donor walk begins at (i+1) mod n_center; s steps on it is at
abbrev pub walk_at : Task → ℕ → ℕ → ℕ
walk_at t i s = (i + 1 + s) % t.centers

-- each step uses one draw; the donor is taken if draw < count/n
abbrev pub taken_at : Task → List ℕ → ℕ → ℕ → ℕ → Bool
taken_at t counts used i s = lt (get_or t.draws (used + s) nan) (share_of t counts (walk_at t i s))

-- the draws that are left, and the steps before the one that takes its donor, if one of these draws does
abbrev pub draws_left : Task → ℕ → ℕ
draws_left t used = length t.draws - used

abbrev pub steps_of : Task → List ℕ → ℕ → ℕ → Option ℕ
steps_of t counts used i = lowest (taken_at t counts used i) (draws_left t used)

-- 1−1/1024 and 1+1/1024
abbrev pub down32 : Float
down32 = of_bits binary32 0x3f7f_c000

abbrev pub up32 : Float
up32 = of_bits binary32 0x3f80_2000

-- For even j, centre i gets donor·(1−1/1024), then donor·(1+1/1024) replaces the donor; for odd j the factors change places.
abbrev pub got_at : (ℕ → Float) → ℕ → Float
got_at donor j = mul binary32 (donor j) (cond (eqb (j % 2) 0) down32 up32)

abbrev pub left_at : (ℕ → Float) → ℕ → Float
left_at donor j = mul binary32 (donor j) (cond (eqb (j % 2) 0) up32 down32)

unfoldable pub split_centers : List Float → ℕ → ℕ → ℕ → List Float
split_centers cs w i a =
    put_part (put_part cs (i * w) w (tab (got_at (coordinate cs w a)) w)) (a * w) w (tab (left_at (coordinate cs w a)) w)

-- Count i = donor count / 2, and the donor keeps the rest.
unfoldable pub split_counts : List ℕ → ℕ → ℕ → List ℕ
split_counts counts i a = set (set counts i (get_or counts a 0 / 2)) a (get_or counts a 0 - get_or counts a 0 / 2)

-- centre i is split off the donor a; test both centres for 9, naming i
unfoldable pub split_off : Task → ℕ → ℕ → ℕ → ℕ → Run → Run
split_off t epoch i a used r =
    let cs = split_centers r.centers t.w i a in
    record {
      answer = cond (finite_center cs t.w i && finite_center cs t.w a) (Ok used) (Err (NotFinite Splitting epoch i));
      centers = cs;
      assigned = r.assigned;
      counts = split_counts r.counts i a;
    }

-- what the steps of a donor walk lead to, or what comes where the draws end first
abbrev pub walked : Option ℕ → (ℕ → Run) → Run → Run
walked (Some s) taken out = taken s
walked None taken out = out

-- the empty centre i is filled, or the draws end first
unfoldable pub fill_center : Task → ℕ → ℕ → ℕ → Run → Run
fill_center t epoch i used r =
    let split = λ (s : ℕ). split_off t epoch i (walk_at t i s) (used + s + 1) r in
    walked (steps_of t r.counts used i) split (refused_with (OutOfDraws epoch i) r)

-- for each centre i rising, if its count is 0
abbrev pub fill_if_empty : Task → ℕ → ℕ → Run → ℕ → Run
fill_if_empty t epoch i r used =
    let filled = fill_center t epoch i used r in
    cond (eqb (get_or r.counts i 0) 0) filled r

unfoldable pub split_to : Task → ℕ → Run → ℕ → Run
split_to t epoch r zero = r
split_to t epoch r (suc i) =
    let before = split_to t epoch r i in
    onward before (λ (used : ℕ). fill_if_empty t epoch i before used)

-- ---- what step 5 is given and asks

-- the k-means as splitting sees it: without its rows
abbrev pub split_task : Frame → List Float → Task
split_task f draws = task_of f [] None None 0 draws

-- no lent draw is below 0
abbrev pub NotNegative : List Float → Type 0
NotNegative draws = (k : ℕ) → k < length draws → le (of_bits binary64 0) (get_or draws k nan) ≡ true

-- the lent runs are as long as the frame says, the draws are in range, and no more are used than lent
pub record Splittable (f : Frame) (draws : List Float) (used : ℕ) (centers : List Float) (counts : List ℕ) : Type 0 where
  pub rows-le : f.n ≤ 100_001
  pub some-center : 0 < f.centers
  pub centers-le : f.centers ≤ 1024
  pub wide : f.w ≤ 256
  pub centers-long : length centers ≡ f.centers * f.w
  pub counts-long : length counts ≡ f.centers
  pub in-range : NotNegative draws
  pub drawn : used ≤ length draws
