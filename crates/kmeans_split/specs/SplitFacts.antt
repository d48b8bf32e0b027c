-- What step 5 promises, in its own words: the counts, the draws used, the donor.
use Rattle.std.specs.Prelude.{ℕ, ◌+◌, ◌≤◌, ◌<◌, ◌≡◌, List, [], ◌∷◌, Ok, Err, length, get_or}
use Rattle.answers.specs.Answers.{Clustered}
use Rattle.kmeans_assign.specs.Task.{Task}
use Rattle.kmeans_split.specs.Run.{Run}

-- the sum of a list of numbers
abbrev pub total : List ℕ → ℕ
total [] = 0
total (x ∷ l) = x + total l

-- there is a count for each centre, and they add up to the number of rows
pub record Counted (t : Task) (r : Run) : Type 0 where
  pub each : length r.counts ≡ t.centers
  pub sum : total r.counts ≡ t.n

-- the draws used are at least those used before and at most those lent
abbrev pub Drawn : ℕ → ℕ → Clustered → Type 0
Drawn before lent (Ok used) = (before ≤ used) × (used ≤ lent)
Drawn before lent (Err why) = Unit {0}

-- the donor a of centre i is a centre, another one, and has rows
pub record DonorOf (t : Task) (counts : List ℕ) (i a : ℕ) : Type 0 where
  pub below : a < t.centers
  pub other : a ≡ i → ⊥
  pub rows : get_or counts a 0 ≡ 0 → ⊥
