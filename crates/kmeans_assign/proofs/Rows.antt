-- A row's range holds the row's values.
use Prim.Native.Nat.{ℕ, ◌<◌}
use mathlib.Core.Path.{◌≡◌, ap}
use mathlib.Core.List.{List}
use native.Mathlib.Omega.{arith}
use lib.ListN.{length}
use lib.Ieee.{Float, nan}
use denote.Bor.{Bor}
use Rattle.std.specs.Prelude.{Option, Some, None, IfSome, option_copied}
use Rattle.lists.specs.Lists.{Part}
use Rattle.lists.proofs.Parts.{get_or-part}
use Rattle.metrics.specs.Distance.{value_in, value_of, residual_at}
use Rattle.kmeans_assign.specs.declared.Given.{Given}
use Rattle.kmeans_assign.specs.Task.{FramedGiven, range_begin, row_given}
use Rattle.kmeans_assign.specs.Assign.{chosen}
use Rattle.kmeans_assign.proofs.Choosing.{chosen-ext}

-- what holds of the list behind a reference, if there is one, is said of the reference
pub behind : {A : Type 0} {P Q : A → Type 0} (o : Option (Bor A)) → ((x : A) → P x → Q x) → IfSome (option_copied o) P → IfSome o (λ r. Q r.now)
behind None f h = h
behind (Some r) f h = f r.now h

-- the residual is as long as a row's range
pub residual-held : (g : Given) (w : ℕ) → FramedGiven g → w ≡ g.frame.w → IfSome g.residual (λ r. length r.now ≡ w)
residual-held g w s h = behind g.residual (λ r e. omega arith) s.residual-long

-- the slice of a row's range holds the row's values
pub row-value : {x : List Float} (g : Given) (k j : ℕ) → Part g.rows.now (range_begin g k) g.frame.w x
    → j < g.frame.w → value_in (option_copied g.residual) x j ≡ (row_given g).value k j
row-value g k j p h =
    ap (λ (v : Float). value_of (residual_at (option_copied g.residual) j) v) (rw p.is (get_or-part g.rows.now (range_begin g k) g.frame.w j nan h))

pub row-chosen : {x : List Float} (g : Given) (cs : List Float) (k n : ℕ) → Part g.rows.now (range_begin g k) g.frame.w x
    → chosen (value_in (option_copied g.residual) x) cs (length x) n ≡ chosen ((row_given g).value k) cs g.frame.w n
row-chosen {x} g cs k n p =
    rw p.long (chosen-ext (value_in (option_copied g.residual) x) ((row_given g).value k) cs g.frame.w n (λ j h. row-value g k j p h))
