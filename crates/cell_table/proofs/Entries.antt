-- Laws on the entries of a table: worked from the parts of one sub-space, from the cell's own stretch, and from the whole buffer, they are the same.
use Rattle.std.proofs.Common.{◌≡◌, ℕ, suc, ◌+◌, ◌*◌, ◌≤◌, ◌<◌, true, false, length, get_or, refl, sym, ◌∙◌, ap, arith}
use Rattle.std.specs.Prelude.{List, Option, Some, None, Ok, Err, is_err, IfSome, Float}
use Rattle.std.specs.Float.{nan, binary32}
use Rattle.std.specs.Float.Ieee.{sub, add}
use Rattle.std.specs.Float.Ieee.Scale.{finite}
use Rattle.answers.specs.Answers.{Checked}
use Rattle.std.proofs.lemmas.Option.{IfSome_then}
use Rattle.std.proofs.lemmas.List.{get_or_past}
use native.Mathlib.Decide.{dec_lt}
use native.Mathlib.Nat.{mul-add, mul-le-mul_left, add_assoc}
use Rattle.lists.specs.Lists.{part_if, Part, part, put_part, fill}
use Rattle.lists.specs.Tests.{every}
use Rattle.lists.proofs.Tables.{tab-ext}
use Rattle.lists.proofs.Parts.{get_or-part}
use Rattle.lists.proofs.Joins.{within, grid-ext}
use Rattle.lists.proofs.Tests.{every-ext}
use Rattle.metrics.specs.Distance.{coordinate_in, coordinate, value_in, value_of, zero32}
use Rattle.metrics.proofs.Laws.{residual-part, squared-ext}
use Rattle.pq_params.specs.declared.Shape.{Shape}
use Rattle.pq_params.specs.Bounds.{bad_range, centers_of}
use Rattle.pq_params.specs.Ranges.{begin_of, width_of, covered_of, on_range}
use Rattle.pq_params.specs.Lengths.{subs_long, table_long}
use Rattle.pq_params.proofs.RangeRule.{begin-next, begin-mono, begin-within}
use Rattle.cell_table.specs.declared.CellView.{CellView}
use Rattle.cell_table.specs.Tables.{query_for, query_of, sub_coordinate, entry_of, finite_row, all_finite}
use Rattle.cell_table.specs.TablesInner.{if_finite, Stored, StoredAt, Filled, Tabled, distance_at, stretch_coordinate, stretch_entry, Parts, Tabling}
use Rattle.cell_table.proofs.Marks.{ok-finite, err-broken}

-- ---- one sub-space

module _ (z : Shape) (s : ℕ) (h : s < z.nsub) where
  -- its coordinates lie within D
  pub range-in : bad_range z.d z.nsub ≡ false → begin_of z.d z.nsub s + width_of z.d z.nsub s ≤ z.d
  range-in g = omega (arith, begin-next z.d z.nsub s, begin-within z.d z.nsub g (suc s) (omega arith))

  -- its centres lie within the cell's stretch
  pub centers-in : (centers : ℕ) → centers * begin_of z.d z.nsub s + centers * width_of z.d z.nsub s ≤ centers * covered_of z.d z.nsub
  centers-in centers =
      rw (← mul-add centers (begin_of z.d z.nsub s) (width_of z.d z.nsub s), ← begin-next z.d z.nsub s)
      (mul-le-mul_left centers (begin-mono z.d z.nsub (suc s) z.nsub (omega arith)))

-- what is read and written in sub-space s lies within the buffers
pub record SubHeld (z : CellView) (centers s b w : ℕ) (own table : List Float) : Type 0 where
  pub in_query : b + w ≤ length z.query.now
  pub in_center : IfSome z.center (λ c. b + w ≤ length c.now)
  pub in_own : centers * b + centers * w ≤ length own
  pub in_table : s * centers + centers ≤ length table

pub sub-held : {z : CellView} {centers s b w : ℕ} {own table : List Float} → Parts z centers own table → s < z.shape.nsub
    → b ≡ begin_of z.shape.d z.shape.nsub s → w ≡ width_of z.shape.d z.shape.nsub s → SubHeld z centers s b w own table
sub-held {z = z} {centers = centers} {s = s} t h B W =
    let i = range-in z.shape s h t.range in record {
      in_query = rw (B, W, t.query-long) i;
      in_center = IfSome_then z.center t.center-long (λ c l. rw (B, W, l) i);
      in_own = rw (B, W, t.own-long) (centers-in z.shape s h centers);
      in_table = rw t.table-long (within s z.shape.nsub centers h);
    }

-- another table of the same length
pub parts-as : {z : CellView} {centers : ℕ} {own : List Float} (table table' : List Float) → Parts z centers own table → length table' ≡ length table → Parts z centers own table'
parts-as table table' t e = record {
  range = t.range;
  query-long = t.query-long;
  center-long = t.center-long;
  own-long = t.own-long;
  table-long = e ∙ t.table-long;
}

module _ (z : Shape) (centers : ℕ) (query : List Float) (residual : Option (List Float)) (own : List Float) (s : ℕ) (b w : ℕ) (B : b ≡ begin_of z.d z.nsub s) (W : w ≡ width_of z.d z.nsub s)
    (x : List Float) (r : Option (List Float)) (cs : List Float) (X : Part query b w x) (R : r ≡ part_if residual b w) (C : Part own (centers * b) (centers * w) cs) where
  at : (q : ℕ) → q < centers → (j : ℕ) → j < w → get_or (part own (centers * b) (centers * w)) (q * w + j) nan ≡ stretch_coordinate z centers own s q j
  at q h j k =
      let l : q * w + j < centers * w = omega (arith, within q centers w h) in
      get_or-part own (centers * b) (centers * w) (q * w + j) nan l ∙ rw (add_assoc, B, W)

  -- a distance of the parts is an entry of the table
  entry-of : (q : ℕ) → q < centers → distance_at x r cs (length x) q ≡ stretch_entry z centers (value_in residual query) own s q
  entry-of q h =
      rw (X.long, ← W)
      (squared-ext (value_in r x) (on_range z.d z.nsub s (value_in residual query)) (coordinate cs w q) (stretch_coordinate z centers own s q) w
      (λ j k. rw (X.is, ← B) (rw (R, get_or-part query b w j nan k, residual-part residual b w j k)))
      (λ j k. rw C.is (at q h j k)))

  -- so what is stored of the parts is stored of the table's stretch
  pub stored_at : (table out out' : List Float) (n : ℕ) (answer : Checked) → n ≡ centers → Stored (distance_at x r cs (length x)) n out answer
      → out' ≡ put_part table (s * centers) centers out
      → StoredAt (stretch_entry z centers (value_in residual query) own s) centers s table out' answer
  stored_at table out out' n answer N S p =
      let e = every-ext _ _ centers (λ q h. ap finite (entry-of q h)) in record {
        answer = S.answer ∙ rw N (ap if_finite e);
        entries = λ t. p ∙ ap (put_part table (s * centers) centers) (S.entries (rw N (e ∙ t)) ∙ rw N (tab-ext _ _ centers (λ q h. entry-of q h)));
      }

-- ---- the whole buffer

module _ (z : CellView) (centers : ℕ) (K : centers ≡ centers_of z.shape.bits) (long : ℕ) (L : long ≡ subs_long z.shape) (own : List Float) (O : Part z.subs.now (z.cell * long) long own) where
  abbrev pub entry : ℕ → ℕ → Float
  entry = entry_of z.shape (query_of z) z.subs.now z.cell

  abbrev pub own_entry : ℕ → ℕ → Float
  own_entry = stretch_entry z.shape centers (query_of z) own

  -- what the cell's own stretch is to a table
  pub parts-of : {table : List Float} → Tabling z table → bad_range z.shape.d z.shape.nsub ≡ false → Parts z centers own table
  parts-of t g = record {
    range = g;
    query-long = t.query-long;
    center-long = t.center-long;
    own-long = rw K (O.long ∙ L);
    table-long = rw K t.table-long;
  }

  same-entry : (s : ℕ) → s < z.shape.nsub → (q : ℕ) → q < centers → own_entry s q ≡ entry s q
  same-entry s h q k =
      let b = begin_of z.shape.d z.shape.nsub s in
      let w = width_of z.shape.d z.shape.nsub s in
      squared-ext (on_range z.shape.d z.shape.nsub s (query_of z)) (on_range z.shape.d z.shape.nsub s (query_of z))
      (stretch_coordinate z.shape centers own s q) (sub_coordinate z.shape z.subs.now z.cell s q) w
      (λ j l. refl)
      (λ j l.
      let i : centers * b + q * w + j < long = omega (arith, within q centers w k, centers-in z.shape s h centers, ap (λ (n : ℕ). n * covered_of z.shape.d z.shape.nsub) K) in
      let m : z.cell * long + (centers * b + q * w + j) ≡ z.cell * subs_long z.shape + centers_of z.shape.bits * b + q * w + j = rw (K, L) (omega arith) in
      rw O.is (get_or-part z.subs.now (z.cell * long) long (centers * b + q * w + j) nan i ∙ ap (λ (n : ℕ). get_or z.subs.now n nan) m))

  same-finite : every (finite_row own_entry centers) z.shape.nsub ≡ all_finite entry z.shape
  same-finite = every-ext _ _ z.shape.nsub (λ s h. every-ext _ _ centers (λ q k. ap finite (same-entry s h q k))) ∙ rw K

  -- every entry is finite
  pub tabled-done : (out : List Float) (r : Checked) → Filled own_entry z.shape.nsub centers out r → is_err r ≡ false → Tabled entry z.shape out r
  tabled-done out (Err why) F e = cc
  tabled-done out (Ok tt) F e =
      let o : every (finite_row own_entry centers) z.shape.nsub ≡ true = ok-finite _ F.answer in
      let t : all_finite entry z.shape ≡ true = sym same-finite ∙ o in record {
        answer = rw t;
        entries = rw t (F.entries o ∙ grid-ext own_entry entry z.shape.nsub centers same-entry ∙ rw K);
      }

  -- one is not, and the table becomes zero
  pub tabled-zero : (mid out : List Float) (r : Checked) → Filled own_entry z.shape.nsub centers mid r → is_err r ≡ true → length mid ≡ table_long z.shape → out ≡ fill zero32 (length mid)
      → Tabled entry z.shape out r
  tabled-zero mid out (Ok tt) F e l o = cc
  tabled-zero mid out (Err why) F e l o =
      let t : all_finite entry z.shape ≡ false = sym same-finite ∙ (err-broken _ why F.answer).0 in record {
        answer = F.answer ∙ ap if_finite same-finite;
        entries = rw t (o ∙ ap (fill zero32) l);
      }

-- ---- the query as a cell meets it

-- a stretch of the coarse centres is the cell's coarse centre
pub stretch-coordinate : (coarse center : List Float) (c d j : ℕ) → Part coarse (c * d) d center → j < d → coordinate_in center j ≡ coordinate coarse d c j
stretch-coordinate coarse center c d j p h = rw p.is (get_or-part coarse (c * d) d j nan h)

-- less that stretch, it is less the coarse centre in the buffer; past its end both are no numbers
pub query-less : (query coarse center : List Float) (c d j : ℕ) → length query ≡ d → Part coarse (c * d) d center
    → query_for query (Some center) j ≡ sub binary32 (coordinate_in query j) (coordinate coarse d c j)
unfolding value_of sub add
query-less query coarse center c d j l p =
    elim (dec_lt j d) [
      | yes h ↦ ap (sub binary32 (coordinate_in query j)) (stretch-coordinate coarse center c d j p h)
      | no h ↦ rw (get_or_past query j nan (omega arith))
    ]

-- in a plain index it is the query
pub query-plain : (query : List Float) → query_for query None ≡ coordinate_in query
unfolding value_of
query-plain query = refl
