-- Promises that are no equation: two outcomes that one allows are equal.
use Prim.Native.Nat.{ℕ}
use mathlib.Core.Path.{◌≡◌, sym, ◌∙◌, ap}
use mathlib.Core.List.{List, []}
use lib.Ieee.{Float}
use Rattle.std.specs.Prelude.{Ok}
use Rattle.answers.specs.Answers.{Clustered}
use Rattle.kmeans_assign.specs.Task.{Task}
use Rattle.kmeans_split.specs.Run.{Run, run_with, Reached}
use Rattle.kmeans_split.specs.Split.{split_to}

pub reached-determined : {r q d : Run} → Reached r d → Reached q d → r ≡ q
reached-determined g h = g.run ∙ sym h.run

-- A split's promise holds for every list of the rows' centres, which it does not see.
module _ (t : Task) (epoch used n : ℕ) (centers : List Float) (counts : List ℕ) where
  abbrev pub Splits : Clustered → List Float → List ℕ → Type 0
  Splits r cs ks = (to : List ℕ) → Reached (run_with r cs ks to) (split_to t epoch (run_with (Ok used) centers counts to) n)

  pub split-determined : (r q : Clustered) (cs ds : List Float) (ks ls : List ℕ) → Splits r cs ks → Splits q ds ls → (r ≡ q) × (cs ≡ ds) × (ks ≡ ls)
  split-determined r q cs ds ks ls g h =
      let e = reached-determined (g []) (h []) in
      (ap (λ (x : Run). x.answer) e, ap (λ (x : Run). x.centers) e, ap (λ (x : Run). x.counts) e)
