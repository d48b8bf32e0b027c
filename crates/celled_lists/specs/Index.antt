-- A celled index: its numbers, its row count and its five buffers, each of document 01's length.
use Rattle.std.specs.Prelude.{ℕ, ◌+◌, ◌*◌, ◌≡◌, ◌<◌, List, [], ◌∷◌, Bool, true, not, length, eqb, Float}
use Rattle.pq_params.specs.declared.CelledShape.{CelledShape}
use Rattle.pq_params.specs.declared.CelledLengths.{CelledLengths}
use Rattle.pq_params.specs.Lengths.{subs_long, celled_of}
use Rattle.celled_lists.specs.declared.IndexLengths.{IndexLengths}
use Rattle.celled_lists.specs.declared.CelledIndex.{CelledIndex}
use Rattle.celled_lists.specs.Lists.{starts_sound}

pub record Index : Type 0 where
  pub shape : CelledShape
  pub n : ℕ
  pub coarse : List Float
  pub starts : List ℕ
  pub members : List ℕ
  pub subs : List Float
  pub codes : List ℕ

-- the index of these numbers and buffers
abbrev pub index_of : CelledShape → ℕ → List Float → List ℕ → List ℕ → List Float → List ℕ → Index
index_of s n coarse starts members subs codes =
    record { shape = s; n = n; coarse = coarse; starts = starts; members = members; subs = subs; codes = codes }

-- the index that is lent
abbrev pub index_in : CelledIndex → Index
index_in x = index_of x.shape x.n x.coarse.now x.starts.now x.members.now x.subs.now x.codes.now

-- how long its buffers are
abbrev pub lengths_of : Index → IndexLengths
lengths_of x = record {
  coarse = length x.coarse;
  starts = length x.starts;
  members = length x.members;
  subs = length x.subs;
  codes = length x.codes;
}

-- test 4 on these lengths, which are to be `long`
abbrev pub length_tests : CelledLengths → IndexLengths → List Bool
length_tests long l =
    not (eqb l.coarse long.coarse)
    ∷ not (eqb l.starts long.starts)
    ∷ not (eqb l.members long.members)
    ∷ not (eqb l.subs long.subs)
    ∷ not (eqb l.codes long.codes)
    ∷ []

abbrev pub index_lengths : Index → List Bool
index_lengths x = length_tests (celled_of x.shape x.n) (lengths_of x)

-- each buffer is of its length
pub record Sized (x : Index) : Type 0 where
  pub coarse-long : length x.coarse ≡ x.shape.cells * x.shape.plain.d
  pub starts-long : length x.starts ≡ x.shape.cells + 1
  pub members-long : length x.members ≡ x.n
  pub subs-long : length x.subs ≡ x.shape.cells * subs_long x.shape.plain
  pub codes-long : length x.codes ≡ x.n * x.shape.plain.nsub

-- what a cell's list is read with: the starts are sound, and c is a cell
pub record HasList (x : Index) (c : ℕ) : Type 0 where
  pub starts-long : length x.starts ≡ x.shape.cells + 1
  pub sound : starts_sound x.starts x.shape.cells (length x.members) ≡ true
  pub cell_in : c < x.shape.cells
