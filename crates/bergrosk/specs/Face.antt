-- Each entry point's outcome as a C program sees it: what the answer says in numbers, and the lent buffers as they are.
use Rattle.std.specs.Prelude.{ℕ, List, cond, get_or, Float}
use Rattle.answers.specs.declared.TrainAnswer.{TrainAnswer}
use Rattle.answers.specs.declared.SearchAnswer.{SearchAnswer}
use Rattle.pq_params.specs.declared.Shape.{Shape}
use Rattle.pq_params.specs.declared.CelledShape.{CelledShape}
use Rattle.pq_params.specs.Bounds.{bad_range}
use Rattle.pq_params.specs.Ranges.{pair_at}
use Rattle.cell_walk.specs.Results.{SearchOut}
use Rattle.celled_lists.specs.Index.{Index}
use Rattle.plain_train.specs.Outcome as PlainTrain
use Rattle.plain_search.specs.Outcome as PlainSearch
use Rattle.celled_train.specs.Outcome as CelledTrain
use Rattle.celled_check.specs.Check as CelledCheck
use Rattle.celled_search.specs.Outcome as CelledSearch
use Rattle.bergrosk.specs.declared.RangeAnswer.{RangeAnswer}

-- ---- the numbers of an index, from C's

abbrev pub shape_of : ℕ → ℕ → ℕ → Shape
shape_of d nsub bits = record { d = d; nsub = nsub; bits = bits }

abbrev pub celled_shape_of : ℕ → ℕ → ℕ → ℕ → ℕ → CelledShape
celled_shape_of d nsub bits cells probes = record { plain = shape_of d nsub bits; cells = cells; probes = probes }

-- ---- ranges

-- place i of the list of ranges, and refusal 1 where D or n_sub is outside its bounds
abbrev pub range_answer_of : ℕ → ℕ → ℕ → RangeAnswer
range_answer_of d nsub i = record {
  number = cond (bad_range d nsub) 1 0;
  begin = get_or (pair_at d nsub i) 0 0;
  end = get_or (pair_at d nsub i) 1 0;
}

-- ---- plain training

pub record PlainTrained : Type 0 where
  pub said : TrainAnswer
  pub subs : List Float
  pub codes : List ℕ
  pub work : List ℕ

abbrev pub plain_trained : TrainAnswer → List Float → List ℕ → List ℕ → PlainTrained
plain_trained said subs codes work = record { said = said; subs = subs; codes = codes; work = work }

abbrev pub plain_trained_by : PlainTrain.TrainOut → PlainTrained
plain_trained_by o = plain_trained o.said o.subs o.codes o.work

unfoldable pub plain_train_faced : PlainTrain.TrainIn → PlainTrained
plain_train_faced i = plain_trained_by (PlainTrain.train_outcome i)

-- ---- celled training

pub record CelledTrained : Type 0 where
  pub said : TrainAnswer
  pub index : Index
  pub work : List ℕ

abbrev pub celled_trained : TrainAnswer → Index → List ℕ → CelledTrained
celled_trained said index work = record { said = said; index = index; work = work }

abbrev pub celled_trained_by : CelledTrain.TrainOut → CelledTrained
celled_trained_by o = celled_trained o.said o.index o.work

unfoldable pub celled_train_faced : CelledTrain.TrainIn → CelledTrained
celled_train_faced i = celled_trained_by (CelledTrain.train_outcome i)

-- ---- the whole check

pub record FacedCheck : Type 0 where
  pub number : ℕ
  pub work : List ℕ

abbrev pub faced_check : ℕ → List ℕ → FacedCheck
faced_check number work = record { number = number; work = work }

abbrev pub faced_check_by : CelledCheck.CheckOut → FacedCheck
faced_check_by o = faced_check o.number o.work

unfoldable pub check_faced : CelledCheck.CheckIn → FacedCheck
check_faced i = faced_check_by (CelledCheck.check_outcome i)

-- ---- search

pub record FacedSearch : Type 0 where
  pub said : SearchAnswer
  pub rows : List ℕ
  pub sums : List Float
  pub table : List Float

abbrev pub faced_search : SearchAnswer → List ℕ → List Float → List Float → FacedSearch
faced_search said rows sums table = record { said = said; rows = rows; sums = sums; table = table }

abbrev pub faced_search_by : SearchOut → FacedSearch
faced_search_by o = faced_search o.said o.rows o.sums o.table

unfoldable pub plain_search_faced : PlainSearch.SearchIn → FacedSearch
plain_search_faced i = faced_search_by (PlainSearch.search_outcome i)

unfoldable pub celled_search_faced : CelledSearch.SearchIn → FacedSearch
celled_search_faced i = faced_search_by (CelledSearch.search_outcome i)
