-- Document 01's answer numbers: for each case of each answer its number, and the values that go with it.
use Rattle.std.specs.Prelude.{ℕ, Result, Ok, Err}
use Rattle.answers.specs.declared.Step.{Step}
use Rattle.answers.specs.declared.Step.TheVariants.{Start, Averaging, Splitting}
use Rattle.answers.specs.declared.Unclustered.{Unclustered}
use Rattle.answers.specs.declared.Unclustered.TheVariants.{OutOfDraws as RanOut, NotFinite as Broke}
use Rattle.answers.specs.declared.Stage.{Stage}
use Rattle.answers.specs.declared.Stage.TheVariants.{Coarse, Sub}
use Rattle.answers.specs.declared.Refusal.{Refusal}
use Rattle.answers.specs.declared.Refusal.TheVariants.{NumbersOutOfBounds, NoRows, TooManyRows, WrongLength, TooManyAsked, NotFinite as CoordinateNotFinite, DrawOutOfRange, Damaged, DistanceNotFinite}
use Rattle.answers.specs.declared.Untrained.{Untrained}
use Rattle.answers.specs.declared.Untrained.TheVariants.{Refused, OutOfDraws, NotFinite}
use Rattle.answers.specs.declared.Found.{Found}
use Rattle.answers.specs.declared.Place.{Place}
use Rattle.answers.specs.declared.TrainAnswer.{TrainAnswer}
use Rattle.answers.specs.declared.SearchAnswer.{SearchAnswer}

-- ---- how each operation ends

-- a k-means, with the draws used so far
abbrev pub Clustered : Type 0
Clustered = Result ℕ Unclustered

-- a training, with the draws used
abbrev pub Trained : Type 0
Trained = Result ℕ Untrained

-- a search, with the places filled and the number of candidates
abbrev pub Searched : Type 0
Searched = Result Found Refusal

-- tests that find nothing, and the whole check
abbrev pub Checked : Type 0
Checked = Result (Unit {0}) Refusal

-- what comes where nothing refuses, and what a refusal leaves
abbrev pub unless {ℓ} : {O : Type ℓ} → Checked → O → (Refusal → O) → O
unless (Ok tt) done refused = done
unless (Err r) done refused = refused r

-- ---- document 01's number of a refusal

abbrev pub number_of : Refusal → ℕ
number_of NumbersOutOfBounds = 1
number_of NoRows = 2
number_of TooManyRows = 3
number_of WrongLength = 4
number_of TooManyAsked = 5
number_of CoordinateNotFinite = 6
number_of DrawOutOfRange = 7
number_of Damaged = 10
number_of DistanceNotFinite = 11

-- ---- the place of an 8 or 9

-- start, averaging or splitting, as 0, 1, 2
abbrev pub step_number : Step → ℕ
step_number Start = 0
step_number Averaging = 1
step_number Splitting = 2

-- an answer that names no place
abbrev pub no_place : Place
no_place = record { stage = 0; cell = 0; sub = 0; step = 0; epoch = 0; center = 0 }

-- stage: 0 for coarse; 1, with cell and sub-space, else
abbrev pub place_at : Stage → Step → ℕ → ℕ → Place
place_at Coarse step epoch center = record { stage = 0; cell = 0; sub = 0; step = step_number step; epoch = epoch; center = center }
place_at (Sub cell sub) step epoch center = record { stage = 1; cell = cell; sub = sub; step = step_number step; epoch = epoch; center = center }

-- ---- training

-- 8 and 9 name their place. Only a split calls for a draw. The draws used are in the answer of a training that succeeds.
abbrev pub train_said : Trained → TrainAnswer
train_said (Ok used) = record { number = 0; place = no_place; used = used }
train_said (Err (Refused r)) = record { number = number_of r; place = no_place; used = 0 }
train_said (Err (OutOfDraws stage epoch center)) = record { number = 8; place = place_at stage Splitting epoch center; used = 0 }
train_said (Err (NotFinite stage step epoch center)) = record { number = 9; place = place_at stage step epoch center; used = 0 }

-- the draws used by a training that succeeds; what a refusal used is told to nobody, and counts as 0
abbrev pub draws_used : Trained → ℕ
draws_used t = (train_said t).used

-- the answer of one k-means, with its stage
abbrev pub staged_why : Stage → Unclustered → Untrained
staged_why stage (RanOut epoch center) = OutOfDraws stage epoch center
staged_why stage (Broke step epoch center) = NotFinite stage step epoch center

abbrev pub staged : Stage → Clustered → Trained
staged stage (Ok used) = Ok used
staged stage (Err why) = Err (staged_why stage why)

-- a k-means alone says what a training of its one stage would say
abbrev pub cluster_said : Stage → Clustered → TrainAnswer
cluster_said stage c = train_said (staged stage c)

-- what comes next, unless there is a refusal already
abbrev pub go_on : Trained → (ℕ → Trained) → Trained
go_on (Ok used) next = next used
go_on (Err u) next = Err u

-- what a training leaves: what it gives if it succeeds, and else what its refusal leaves
abbrev pub ended {ℓ} : {O : Type ℓ} → Trained → (ℕ → O) → (Trained → O) → O
ended (Ok used) done zero = done used
ended (Err u) done zero = zero (Err u)

-- ---- search: found and scored are 0 in a refusal

abbrev pub search_said : Searched → SearchAnswer
search_said (Ok a) = record { number = 0; found = a.found; scored = a.scored }
search_said (Err r) = record { number = number_of r; found = 0; scored = 0 }

-- ---- the whole check

abbrev pub check_said : Checked → ℕ
check_said (Ok tt) = 0
check_said (Err r) = number_of r
