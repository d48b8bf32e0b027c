-- What the steps of the whole check promise to one another.
use Rattle.std.specs.Prelude.{ℕ, ◌+◌, ◌*◌, ◌≤◌, ◌≡◌, List, [], ◌∷◌, ◌++◌, Bool, not, ◌&&◌, length, get_or, eqb}
use Rattle.lists.specs.Lists.{fill}
use Rattle.lists.specs.Tests.{any_of, every}
use Rattle.answers.specs.Answers.{Checked}
use Rattle.pq_params.specs.Bounds.{bad_celled}
use Rattle.pq_params.specs.Lengths.{celled_lengths}
use Rattle.pq_params.specs.Refusals.{check_tests}
use Rattle.celled_lists.specs.Lists.{starts_sound}
use Rattle.celled_lists.specs.Index.{Index, lengths_of, length_tests}
use Rattle.celled_check.specs.Check.{cell_sound, stands_once}

-- tests 1, 3, 4, by the lengths that `celled_lengths` answers
abbrev pub refusal_by : Index → ℕ → Checked
refusal_by x work =
    let long = celled_lengths x.shape x.n in
    check_tests (bad_celled x.shape) x.n (any_of (length_tests long (lengths_of x) ++ (not (eqb work long.work) ∷ [])))

abbrev pub is_one : List ℕ → ℕ → Bool
is_one counts m = eqb (get_or counts m 0) 1

-- starts and lists
abbrev pub cells_sound : Index → Bool
cells_sound x = starts_sound x.starts x.shape.cells x.n && every (cell_sound x.starts x.members x.n) x.shape.cells

-- what the walk of all lists counts on
pub record Lists (x : Index) : Type 0 where
  pub starts-long : length x.starts ≡ x.shape.cells + 1
  pub members-long : length x.members ≡ x.n

-- what counting the members leaves
pub record Once (members work : List ℕ) (n : ℕ) (r : Bool) (work' : List ℕ) : Type 0 where
  pub once : r ≡ every (stands_once members) n
  pub cleared : work' ≡ fill 0 (length work)

-- what all walks count on: the numbers are within their bounds and each buffer is of its length
pub record Ready (x : Index) (work : List ℕ) : Type 0 where
  pub bits_most : x.shape.plain.bits ≤ 8
  pub rows_few : x.n ≤ 100_001
  pub starts-long : length x.starts ≡ x.shape.cells + 1
  pub members-long : length x.members ≡ x.n
  pub codes-long : length x.codes ≡ x.n * x.shape.plain.nsub
  pub work-long : length work ≡ x.n + 1024
