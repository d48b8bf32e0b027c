-- Laws on tables of worked examples.
use mathlib.Core.Path.{◌≡◌}
use mathlib.Core.Bool.{true}
use mathlib.Core.List.{List, [], ◌∷◌, ◌++◌}
use Rattle.lists.specs.Examples.{Example, same, agree}
use Rattle.lists.proofs.Tests.{and_l, and_r, and_both}

-- two tables that agree, one after the other
pub agree-append : (t u : List Example) → agree t ≡ true → agree u ≡ true → agree (t ++ u) ≡ true
agree-append [] u p q = q
agree-append (e ∷ t) u p q =
    let s = same e.found e.expected in
    and_both (and_l s (agree t) p) (agree-append t u (and_r s (agree t) p) q)
