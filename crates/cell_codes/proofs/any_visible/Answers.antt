-- `any_visible`: a row is visible, or all are hidden.
use Rattle.std.proofs.Common.{◌≡◌, ℕ, true, false, refl, rules}
use native.Mathlib.Nat.{sub-zero}
use Rattle.std.proofs.lemmas.Iterator.{cases_from_any, YieldsList-from_range}
use Rattle.cell_codes.specs.Codes.{row_at, visible}
use Rattle.cell_codes.proofs.Shown.{any-shown}
use Rattle.cell_codes.proofs.any_visible.Goals as goal

pub returns : goal.returns
returns c =
    let z = c.args.z in
    let v = λ (k : ℕ). visible z.mask.now (row_at z k) in
    let each = cases_from_any _ _ _ (λ k. v k ≡ true) (λ k. v k ≡ false) c.any.ensures.ran (YieldsList-from_range 0 z.n z.n refl (sub-zero z.n)) (λ x q k. search rules) (λ x q k. search rules) in
    any-shown (visible z.mask.now) (row_at z) z.n _ each
