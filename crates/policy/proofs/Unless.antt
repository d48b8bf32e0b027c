-- Laws on what comes where nothing refuses, and what a refusal leaves.
use mathlib.Core.Path.{◌≡◌, refl}
use Rattle.std.specs.Prelude.{Ok, Err}
use Rattle.answers.specs.declared.Refusal.{Refusal}
use Rattle.answers.specs.Answers.{Checked, unless}

module _ {ℓ κ} {O : Type ℓ} (P : O → Type κ) where
  -- what holds of both holds of what comes
  pub unless_all : (t : Checked) (o : O) (u : Refusal → O) → P o → ((r : Refusal) → P (u r)) → P (unless t o u)
  unless_all (Ok tt) o u h k = h
  unless_all (Err r) o u h k = k r

  -- what no refusal leaves comes only where nothing refuses
  pub unless_done : (t : Checked) (o : O) (u : Refusal → O) → ((r : Refusal) → P (u r) → ⊥) → P (unless t o u) → (t ≡ Ok tt) × P o
  unless_done (Ok tt) o u never h = (refl, h)
  unless_done (Err r) o u never h = absurd (never r h)

-- two that agree where nothing refuses agree
pub unless_same {ℓ} : {O : Type ℓ} (t : Checked) (o p : O) (u : Refusal → O) → (t ≡ Ok tt → o ≡ p) → unless t o u ≡ unless t p u
unless_same (Ok tt) o p u h = h refl
unless_same (Err r) o p u h = refl
