-- How the slices that are lent to a training hold a list of rows, and what its functions leave there.
use Rattle.std.specs.Prelude.{ℕ, ◌+◌, ◌*◌, ◌≤◌, ◌<◌, ◌≡◌, List, Option, IfSome, Ok, option_copied, false, length, get_or, Float}
use Rattle.std.specs.Float.{nan}
use Rattle.lists.specs.Lists.{fill, part, put_part, member_of}
use Rattle.metrics.specs.Distance.{zero32, value_of, value_in, residual_at}
use Rattle.pq_params.specs.declared.Shape.{Shape}
use Rattle.pq_params.specs.Bounds.{bad_plain, centers_of}
use Rattle.pq_params.specs.Ranges.{begin_of, width_of, on_range}
use Rattle.pq_params.specs.Lengths.{subs_long}
use Rattle.kmeans_assign.specs.declared.Frame.{Frame}
use Rattle.kmeans_assign.specs.declared.Given.{Given}
use Rattle.kmeans_assign.specs.Task.{FramedGiven, Task}
use Rattle.kmeans.specs.Kmeans.{train}
use Rattle.kmeans_assign.specs.Assign.{chosen}
use Rattle.kmeans_split.specs.Split.{NotNegative}
use Rattle.pq_train.specs.declared.RowList.{RowList}
use Rattle.answers.specs.Answers.{Clustered, Trained, ended}
use Rattle.pq_train.specs.Training.{Listed, answer_of, sub_centers}

-- the value of the k-th row at coordinate j of D, where rows are d wide
abbrev pub values_in : ℕ → List Float → Option (List ℕ) → Option (List Float) → ℕ → ℕ → Float
values_in d rows members center k j = value_of (residual_at center j) (get_or rows (member_of members k * d + j) nan)

abbrev pub values_of : RowList → ℕ → ℕ → Float
values_of l = values_in l.shape.d l.rows.now (option_copied l.members) (option_copied l.center)

abbrev pub listed_of : RowList → List Float → ℕ → Listed
listed_of l draws used = record {
  shape = l.shape;
  epochs = l.epochs;
  draws = draws;
  cell = l.cell;
  n = l.n;
  value = values_of l;
  used = used;
}

-- the frame of sub-space s
abbrev pub frame_of : RowList → ℕ → Frame
frame_of l s = record {
  d = l.shape.d;
  begin = begin_of l.shape.d l.shape.nsub s;
  w = width_of l.shape.d l.shape.nsub s;
  n = l.n;
  centers = centers_of l.shape.bits;
}

-- the list holds its rows and its residual, and draws are in range, within document 01's bounds
pub record Listing (l : RowList) (draws : List Float) : Type 0 where
  pub good : bad_plain l.shape ≡ false
  pub few-epochs : l.epochs ≤ 1000
  pub some-row : 0 < l.n
  pub rows-le : l.n ≤ 100_001
  pub cells-le : l.cell < 1024
  pub center-long : IfSome (option_copied l.center) (λ c. l.shape.d ≤ length c)
  pub listed-long : IfSome (option_copied l.members) (λ m. l.n ≤ length m)
  pub held : (k : ℕ) → k < l.n → member_of (option_copied l.members) k * l.shape.d + l.shape.d ≤ length l.rows.now
  pub in-range : NotNegative draws

-- the sub-centres and the assignments are as long as the list asks, and no more draws are used than lent
pub record Lent (l : RowList) (used : ℕ) (draws subs : List Float) (assigned : List ℕ) : Type 0 where
  pub subs-long : length subs ≡ subs_long l.shape
  pub assigned-long : length assigned ≡ l.n
  pub drawn : used ≤ length draws

-- what is given for a sub-space is held, and has no more centres than a sub-space may
pub record FramedIn (g : Given) : Type 0 where
  pub framed : FramedGiven g
  pub centers-le : g.frame.centers ≤ 256

-- where the centres of sub-space s stand in the sub-centres of its list, and how long they are
abbrev pub stretch_at : Shape → ℕ → ℕ
stretch_at z s = centers_of z.bits * begin_of z.d z.nsub s

abbrev pub stretch_long : Shape → ℕ → ℕ
stretch_long z s = centers_of z.bits * width_of z.d z.nsub s

-- what a k-means leaves
pub record Ran (t : Task) (used : ℕ) (answer : Clustered) (centers : List Float) (assigned : List ℕ) : Type 0 where
  pub said : answer ≡ (train t used).answer
  pub made : centers ≡ (train t used).centers
  pub long : length centers ≡ t.centers * t.w
  pub chosen : assigned ≡ (train t used).assigned

-- the same, where the centres are the w elements of the sub-centres from `at` on
pub record RanAt (t : Task) (used at w : ℕ) (subs : List Float) (answer : Clustered) (subs' : List Float) (assigned : List ℕ) : Type 0 where
  pub said : answer ≡ (train t used).answer
  pub placed : subs' ≡ put_part subs at w (train t used).centers
  pub long : length (train t used).centers ≡ w
  pub chosen : assigned ≡ (train t used).assigned

-- what all sub-spaces leave, where none refuses
pub record Centered (l : Listed) (answer : Trained) (subs : List Float) : Type 0 where
  pub said : answer ≡ answer_of l
  pub made : (used : ℕ) → answer ≡ Ok used → subs ≡ sub_centers l

-- what the training of a list leaves: its sub-centres, or zeros where it is refused, and zeros for the assignments
pub record ListOut : Type 0 where
  pub answer : Trained
  pub subs : List Float
  pub assigned : List ℕ

abbrev pub list_out : Trained → List Float → List ℕ → ListOut
list_out answer subs assigned = record { answer = answer; subs = subs; assigned = assigned }

unfoldable pub list_outcome : Listed → ℕ → ListOut
list_outcome l long = record {
  answer = answer_of l;
  subs = ended (answer_of l) (λ (used : ℕ). sub_centers l) (λ (t : Trained). fill zero32 long);
  assigned = fill 0 l.n;
}

-- row m of the rows
abbrev pub row_in : Shape → List Float → ℕ → List Float
row_in z rows m = part rows (m * z.d) z.d

-- a row, the residual and the sub-centres of its list are as long as the numbers say
pub record Coding (z : Shape) (x : List Float) (center : Option (List Float)) (subs : List Float) : Type 0 where
  pub good : bad_plain z ≡ false
  pub row-long : length x ≡ z.d
  pub center-long : IfSome center (λ c. z.d ≤ length c)
  pub subs-long : length subs ≡ subs_long z

-- the code, in sub-space s, of a row x less the residual, against the sub-centres of its list
unfoldable pub code_by : Shape → List Float → Option (List Float) → List Float → ℕ → ℕ
code_by z x center subs s =
    chosen (on_range z.d z.nsub s (value_in center x)) (part subs (stretch_at z s) (stretch_long z s)) (width_of z.d z.nsub s) (centers_of z.bits)
