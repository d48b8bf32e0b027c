-- What the whole check accepts, in plain statements.
use Rattle.std.specs.Prelude.{ℕ, suc, ◌+◌, ◌*◌, ◌≤◌, ◌<◌, ◌≡◌, Ok, List, length, get_or}
use Rattle.pq_params.specs.Bounds.{centers_of}
use Rattle.pq_params.specs.Ranges.{covered_of}
use Rattle.pq_params.specs.Codes.{code_at}
use Rattle.celled_lists.specs.Index.{Index}
use Rattle.celled_lists.specs.Lists.{start_of, members_of}
use Rattle.celled_check.specs.Check.{CheckIn, check_in, check_outcome}

-- x passes the whole check, which is lent a work buffer
pub record Passes (x : Index) : Type 0 where
  pub work : List ℕ
  pub accepted : (check_outcome (check_in x work)).answer ≡ Ok tt

-- the bounds of the parameters and of the row count
pub record InBounds (x : Index) : Type 0 where
  pub d-least : 1 ≤ x.shape.plain.d
  pub d-most : x.shape.plain.d ≤ 256
  pub nsub-least : 1 ≤ x.shape.plain.nsub
  pub nsub-most : x.shape.plain.nsub ≤ 64
  pub nsub-of-d : x.shape.plain.nsub ≤ x.shape.plain.d
  pub bits_most : x.shape.plain.bits ≤ 8
  pub cells-least : 1 ≤ x.shape.cells
  pub cells-most : x.shape.cells ≤ 1024
  pub probes-least : 1 ≤ x.shape.probes
  pub probes-most : x.shape.probes ≤ x.shape.cells
  pub n-most : x.n ≤ 100_001

-- each buffer is of exactly the length stated
pub record RightLengths (x : Index) (lent : List ℕ) : Type 0 where
  pub coarse : length x.coarse ≡ x.shape.cells * x.shape.plain.d
  pub starts : length x.starts ≡ x.shape.cells + 1
  pub members : length x.members ≡ x.n
  pub subs : length x.subs
      ≡ x.shape.cells * (centers_of x.shape.plain.bits * covered_of x.shape.plain.d x.shape.plain.nsub)
  pub codes : length x.codes ≡ x.n * x.shape.plain.nsub
  pub work : length lent ≡ x.n + 1024

-- place p of a list holds row m
pub record HoldsAt (rows : List ℕ) (m p : ℕ) : Type 0 where
  pub within : p < length rows
  pub held : get_or rows p 0 ≡ m

-- row m stands at some place of a list
abbrev pub StandsIn : List ℕ → ℕ → Type 0
StandsIn rows m = (p : ℕ) × HoldsAt rows m p

-- each element is below the next
abbrev pub EachBelowNext : List ℕ → Type 0
EachBelowNext rows = (i : ℕ) → suc i < length rows → get_or rows i 0 < get_or rows (suc i) 0

-- each element is below n
abbrev pub EachBelow : ℕ → List ℕ → Type 0
EachBelow n rows = (i : ℕ) → i < length rows → get_or rows i 0 < n

-- the list of cell c
abbrev pub list_at : Index → ℕ → List ℕ
list_at x c = members_of x.starts x.members c

pub record InOrder (x : Index) : Type 0 where
  -- starts go from 0 to n and never fall
  pub first-start : start_of x.starts 0 ≡ 0
  pub last-start : start_of x.starts x.shape.cells ≡ x.n
  pub never-fall : (c : ℕ) → c < x.shape.cells → start_of x.starts c ≤ start_of x.starts (suc c)
  -- every row number stands once in the members
  pub stands : (m : ℕ) → m < x.n → StandsIn x.members m
  pub once : (m : ℕ) → m < x.n → (p q : ℕ) → HoldsAt x.members m p → HoldsAt x.members m q → p ≡ q
  -- each cell rises, and its members are below n
  pub rises : (c : ℕ) → c < x.shape.cells → EachBelowNext (list_at x c)
  pub below : (c : ℕ) → c < x.shape.cells → EachBelow x.n (list_at x c)
  -- all codes are below K
  pub codes-below : (m : ℕ) → m < x.n → (s : ℕ) → s < x.shape.plain.nsub
      → code_at x.codes x.shape.plain.nsub m s < centers_of x.shape.plain.bits

-- lengths and bounds hold, and the lists and codes are in order
pub record Acceptable (i : CheckIn) : Type 0 where
  pub bounds : InBounds i.index
  pub lengths : RightLengths i.index i.work
  pub order : InOrder i.index

-- the same index, so many of whose cells a search probes
abbrev pub probing : Index → ℕ → Index
probing x probes = record {
  shape = record { plain = x.shape.plain; cells = x.shape.cells; probes = probes };
  n = x.n;
  coarse = x.coarse;
  starts = x.starts;
  members = x.members;
  subs = x.subs;
  codes = x.codes;
}
