-- Two outcomes that a promise of the face allows are equal.
use Prim.Native.Nat.{ℕ}
use mathlib.Core.Path.{◌≡◌}
use Rattle.pq_params.specs.declared.PQParams.{PQParams}
use Rattle.pq_params.specs.declared.IVFPQParams.{IVFPQParams}
use Rattle.pq_params.specs.declared.PlainLengths.{PlainLengths}
use Rattle.pq_params.specs.declared.CelledLengths.{CelledLengths}
use Rattle.pq_params.specs.Defaults.{plain_default, celled_default}
use Rattle.pq_params.specs.Lengths.{plain_lengths, celled_lengths}
use Rattle.plain_train.specs.Outcome as PlainTrain
use Rattle.plain_search.specs.Outcome as PlainSearch
use Rattle.celled_check.specs.Check as CelledCheck
use Rattle.celled_train.specs.Outcome as CelledTrain
use Rattle.celled_search.specs.Outcome as CelledSearch
use Rattle.bergrosk.specs.declared.RangeAnswer.{RangeAnswer}
use Rattle.bergrosk.specs.Face.{shape_of, celled_shape_of, range_answer_of, PlainTrained, plain_train_faced, CelledTrained, celled_train_faced}
use Rattle.bergrosk.specs.Face.{FacedCheck, check_faced, FacedSearch, plain_search_faced, celled_search_faced}
use Rattle.policy.proofs.Determinacy.{determined, plain-lengths-determined, celled-lengths-determined}

pub faced-plain-defaults-determined : (x y : PQParams) → x ≡ plain_default → y ≡ plain_default → x ≡ y
faced-plain-defaults-determined = determined (λ (u : Unit {0}). plain_default) tt

pub faced-celled-defaults-determined : (x y : IVFPQParams) → x ≡ celled_default → y ≡ celled_default → x ≡ y
faced-celled-defaults-determined = determined (λ (u : Unit {0}). celled_default) tt

pub faced-plain-lengths-determined : (d nsub bits n : ℕ) (x y : PlainLengths) → x ≡ plain_lengths (shape_of d nsub bits) n
    → y ≡ plain_lengths (shape_of d nsub bits) n → x ≡ y
faced-plain-lengths-determined d nsub bits = plain-lengths-determined (shape_of d nsub bits)

pub faced-celled-lengths-determined : (d nsub bits cells probes n : ℕ) (x y : CelledLengths) → x ≡ celled_lengths (celled_shape_of d nsub bits cells probes) n
    → y ≡ celled_lengths (celled_shape_of d nsub bits cells probes) n → x ≡ y
faced-celled-lengths-determined d nsub bits cells probes = celled-lengths-determined (celled_shape_of d nsub bits cells probes)

pub faced-range-determined : (d nsub i : ℕ) (x y : RangeAnswer) → x ≡ range_answer_of d nsub i → y ≡ range_answer_of d nsub i → x ≡ y
faced-range-determined d nsub = determined (range_answer_of d nsub)

pub faced-plain-training-determined : (i : PlainTrain.TrainIn) (x y : PlainTrained) → x ≡ plain_train_faced i → y ≡ plain_train_faced i → x ≡ y
faced-plain-training-determined = determined plain_train_faced

pub faced-plain-search-determined : (i : PlainSearch.SearchIn) (x y : FacedSearch) → x ≡ plain_search_faced i → y ≡ plain_search_faced i → x ≡ y
faced-plain-search-determined = determined plain_search_faced

pub faced-celled-training-determined : (i : CelledTrain.TrainIn) (x y : CelledTrained) → x ≡ celled_train_faced i → y ≡ celled_train_faced i → x ≡ y
faced-celled-training-determined = determined celled_train_faced

pub faced-check-determined : (i : CelledCheck.CheckIn) (x y : FacedCheck) → x ≡ check_faced i → y ≡ check_faced i → x ≡ y
faced-check-determined = determined check_faced

pub faced-celled-search-determined : (i : CelledSearch.SearchIn) (x y : FacedSearch) → x ≡ celled_search_faced i → y ≡ celled_search_faced i → x ≡ y
faced-celled-search-determined = determined celled_search_faced
