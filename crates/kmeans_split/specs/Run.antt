-- What one k-means has reached, and how it goes on from there.
use Rattle.std.specs.Prelude.{ℕ, ◌≡◌, List, Ok, Err, Float}
use Rattle.answers.specs.declared.Unclustered.{Unclustered}
use Rattle.answers.specs.declared.Stage.{Stage}
use Rattle.answers.specs.Answers.{Clustered, cluster_said}

-- the answer so far, the centres, the centre of each row, the rows of each centre
pub record Run : Type 0 where
  pub answer : Clustered
  pub centers : List Float
  pub assigned : List ℕ
  pub counts : List ℕ

-- a run, from the answer and what stands in the lent buffers
abbrev pub run_of : Clustered → List Float → List ℕ → List ℕ → Run
run_of answer centers assigned counts = record { answer = answer; centers = centers; assigned = assigned; counts = counts }

-- the same, the centre of each row last: step 5 does not see them
abbrev pub run_with : Clustered → List Float → List ℕ → List ℕ → Run
run_with answer centers counts to = run_of answer centers to counts

-- a run that ends here, with a refusal
abbrev pub refused_with : Unclustered → Run → Run
refused_with why r = record { answer = Err why; centers = r.centers; assigned = r.assigned; counts = r.counts }

-- what comes next, from the draws used so far, unless there is a refusal already
abbrev pub onward_by : Clustered → Run → (ℕ → Run) → Run
onward_by (Ok used) r next = next used
onward_by (Err why) r next = r

abbrev pub onward : Run → (ℕ → Run) → Run
onward r next = onward_by r.answer r next

-- the run r is the run d that a definition gives; and by document 01's number and values it says, at any stage, what that one says
pub record Reached (r d : Run) : Type 0 where
  pub run : r ≡ d
  pub said : (stage : Stage) → cluster_said stage r.answer ≡ cluster_said stage d.answer
