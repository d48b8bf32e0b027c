-- The whole check of a celled index, for any input: the answer, and work afterwards.
use Rattle.std.specs.Prelude.{ℕ, List, [], ◌∷◌, ◌++◌, Ok, Err, Bool, cond, ◌&&◌, length, eqb}
use Rattle.lists.specs.Lists.{fill}
use Rattle.lists.specs.Tests.{any_of, every}
use Rattle.answers.specs.declared.Refusal.{Refusal}
use Rattle.answers.specs.declared.Refusal.TheVariants.{Damaged}
use Rattle.answers.specs.Answers.{Checked, unless, number_of, check_said}
use Rattle.pq_params.specs.Bounds.{bad_celled}
use Rattle.pq_params.specs.Lengths.{celled_of}
use Rattle.pq_params.specs.Codes.{codes_below}
use Rattle.pq_params.specs.Refusals.{not_long, check_tests}
use Rattle.celled_lists.specs.Lists.{members_of, starts_sound, list_sound, places}
use Rattle.celled_lists.specs.Index.{Index, index_lengths}

-- members of cell c below n and strictly rising
abbrev pub cell_sound : List ℕ → List ℕ → ℕ → ℕ → Bool
cell_sound starts members n c = list_sound n (members_of starts members c)

-- row number m stands once in the members
abbrev pub stands_once : List ℕ → ℕ → Bool
stands_once members m = eqb (places members m) 1

-- starts are as in search, every row number stands once in the members, each cell rises, and all codes are below K
unfoldable pub index_sound : Index → Bool
index_sound x =
    starts_sound x.starts x.shape.cells x.n
    && every (cell_sound x.starts x.members x.n) x.shape.cells
    && every (stands_once x.members) x.n
    && every (codes_below x.codes x.shape.plain) x.n

pub record CheckIn : Type 0 where
  pub index : Index
  pub work : List ℕ

abbrev pub check_in : Index → List ℕ → CheckIn
check_in x work = record { index = x; work = work }

-- the answer, its number in document 01, and work
pub record CheckOut : Type 0 where
  pub answer : Checked
  pub number : ℕ
  pub work : List ℕ

abbrev pub check_out : Checked → List ℕ → CheckOut
check_out answer work = record { answer = answer; number = check_said answer; work = work }

-- Its refusals are 1, 3, 4, then 10.
abbrev pub check_lengths : CheckIn → List Bool
check_lengths i = index_lengths i.index ++ (not_long i.work (celled_of i.index.shape i.index.n).work ∷ [])

abbrev pub check_refusal : CheckIn → Checked
check_refusal i = check_tests (bad_celled i.index.shape) i.index.n (any_of (check_lengths i))

-- 1 to 7 leave nothing changed, 10 leaves work zero
abbrev pub unchanged : CheckIn → Refusal → CheckOut
unchanged i r = record { answer = Err r; number = number_of r; work = i.work }

abbrev pub accepted : CheckIn → CheckOut
accepted i = record { answer = Ok tt; number = 0; work = fill 0 (length i.work) }

abbrev pub damaged : CheckIn → CheckOut
damaged i = record { answer = Err Damaged; number = 10; work = fill 0 (length i.work) }

abbrev pub checked : CheckIn → CheckOut
checked i = cond (index_sound i.index) (accepted i) (damaged i)

unfoldable pub check_outcome : CheckIn → CheckOut
check_outcome i = unless (check_refusal i) (checked i) (unchanged i)
