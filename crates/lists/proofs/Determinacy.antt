-- A promise that is no equation: two results that it allows are equal.
use Prim.Native.Nat.{ℕ}
use mathlib.Core.Path.{◌≡◌, sym, ◌∙◌}
use mathlib.Core.List.{List}
use Rattle.lists.specs.Lists.{Part}

pub part-determined {ℓ} : {A : Type ℓ} {s p q : List A} {a w : ℕ} → Part s a w p → Part s a w q → p ≡ q
part-determined g h = g.is ∙ sym h.is
