-- The plain index as one list of all rows, and what its training asks of the slices that it is lent.
use Rattle.std.specs.Prelude.{ℕ, ◌+◌, ◌*◌, ◌≤◌, ◌<◌, ◌≡◌, List, None, false, length, Float}
use denote.Bor.{Bor}
use Rattle.lists.specs.Lists.{part}
use Rattle.pq_params.specs.declared.Shape.{Shape}
use Rattle.pq_params.specs.Bounds.{bad_plain}
use Rattle.pq_params.specs.Lengths.{subs_long}
use Rattle.kmeans_split.specs.Split.{NotNegative}
use Rattle.pq_train.specs.declared.RowList.{RowList}
use Rattle.pq_train.specs.Inner.{code_by}
use Rattle.plain_train.specs.Outcome.{TrainIn}

abbrev pub plain_list : Shape → ℕ → ℕ → Bor (List Float) → RowList
plain_list shape epochs n rows = record { shape = shape; epochs = epochs; cell = 0; n = n; rows = rows; members = None; center = None }

-- what the work counts on: the input has passed the tests
pub record Ready (i : TrainIn) : Type 0 where
  pub good : bad_plain i.shape ≡ false
  pub few-epochs : i.epochs ≤ 1000
  pub some-row : 0 < i.n
  pub rows-le : i.n ≤ 100_001
  pub in-range : NotNegative i.draws
  pub rows_long : length i.rows ≡ i.n * i.shape.d
  pub subs-long : length i.subs ≡ subs_long i.shape
  pub codes-long : length i.codes ≡ i.n * i.shape.nsub
  pub work-long : length i.work ≡ i.n + 1024

-- what the codes of all rows ask: they are coded without residual
pub record Codable (l : RowList) (subs : List Float) (codes : List ℕ) : Type 0 where
  pub good : bad_plain l.shape ≡ false
  pub plain : l.center ≡ None
  pub rows_long : length l.rows.now ≡ l.n * l.shape.d
  pub subs-long : length subs ≡ subs_long l.shape
  pub codes-long : length codes ≡ l.n * l.shape.nsub

-- the code of row m in sub-space s against the sub-centres
abbrev pub code_in : Shape → List Float → List Float → ℕ → ℕ → ℕ
code_in z rows subs m = code_by z (part rows (m * z.d) z.d) None subs
