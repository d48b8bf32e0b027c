-- Two outcomes that a promise allows are equal: by one law for each entry point, and by its own crate's law for a promise that is no equation.
use Prim.Native.Nat.{ℕ}
use mathlib.Core.Path.{◌≡◌, sym, ◌∙◌}
use mathlib.Core.List.{List}
use Rattle.pq_params.specs.declared.Shape.{Shape}
use Rattle.pq_params.specs.declared.CelledShape.{CelledShape}
use Rattle.pq_params.specs.declared.PlainLengths.{PlainLengths}
use Rattle.pq_params.specs.declared.CelledLengths.{CelledLengths}
use Rattle.pq_params.specs.Ranges.{ranges_of}
use Rattle.pq_params.specs.Lengths.{plain_lengths, celled_lengths}
use Rattle.cell_walk.specs.Results.{SearchOut}
use Rattle.plain_train.specs.Outcome as PlainTrain
use Rattle.plain_search.specs.Outcome as PlainSearch
use Rattle.celled_check.specs.Check as CelledCheck
use Rattle.celled_train.specs.Outcome as CelledTrain
use Rattle.celled_search.specs.Outcome as CelledSearch
pub use Rattle.lists.proofs.Determinacy.{part-determined}
pub use Rattle.neighbor.proofs.Determinacy.{placed-once, inserted-once, merged-once, stored-once, last-stored-once}
pub use Rattle.kmeans_split.proofs.Determinacy.{reached-determined, split-determined}
pub use Rattle.cell_table.proofs.Determinacy.{tabled-once}
pub use Rattle.cell_sums.proofs.Determinacy.{summed-once}
pub use Rattle.policy.proofs.DeterminacyInner.{probed-determined, lists-determined, filled-determined}

pub determined {ℓ κ} : {I : Type ℓ} {O : Type κ} (f : I → O) (i : I) (x y : O) → x ≡ f i → y ≡ f i → x ≡ y
determined f i x y p q = p ∙ sym q

-- ---- the range rule, and the lengths of the buffers

pub ranges-determined : (d nsub : ℕ) (x y : List (List ℕ)) → x ≡ ranges_of d nsub → y ≡ ranges_of d nsub → x ≡ y
ranges-determined d = determined (ranges_of d)

pub plain-lengths-determined : (s : Shape) (n : ℕ) (x y : PlainLengths) → x ≡ plain_lengths s n → y ≡ plain_lengths s n → x ≡ y
plain-lengths-determined s = determined (plain_lengths s)

pub celled-lengths-determined : (s : CelledShape) (n : ℕ) (x y : CelledLengths) → x ≡ celled_lengths s n → y ≡ celled_lengths s n → x ≡ y
celled-lengths-determined s = determined (celled_lengths s)

-- ---- the plain index

pub plain-training-determined : (i : PlainTrain.TrainIn) (x y : PlainTrain.TrainOut) → x ≡ PlainTrain.train_outcome i → y ≡ PlainTrain.train_outcome i → x ≡ y
plain-training-determined = determined PlainTrain.train_outcome

pub plain-search-determined : (i : PlainSearch.SearchIn) (x y : SearchOut) → x ≡ PlainSearch.search_outcome i → y ≡ PlainSearch.search_outcome i → x ≡ y
plain-search-determined = determined PlainSearch.search_outcome

-- ---- the celled index

pub celled-training-determined : (i : CelledTrain.TrainIn) (x y : CelledTrain.TrainOut) → x ≡ CelledTrain.train_outcome i → y ≡ CelledTrain.train_outcome i → x ≡ y
celled-training-determined = determined CelledTrain.train_outcome

pub check-determined : (i : CelledCheck.CheckIn) (x y : CelledCheck.CheckOut) → x ≡ CelledCheck.check_outcome i → y ≡ CelledCheck.check_outcome i → x ≡ y
check-determined = determined CelledCheck.check_outcome

pub celled-search-determined : (i : CelledSearch.SearchIn) (x y : SearchOut) → x ≡ CelledSearch.search_outcome i → y ≡ CelledSearch.search_outcome i → x ≡ y
celled-search-determined = determined CelledSearch.search_outcome
