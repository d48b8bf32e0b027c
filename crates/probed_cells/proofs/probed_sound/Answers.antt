-- `probed_sound`: each cell of the list may be tested, and all are.
use Rattle.std.proofs.Common.{◌≡◌, rules, true, false}
use Rattle.std.proofs.lemmas.Iterator.{cases_from_all, YieldsList-from_slice}
use Rattle.std.proofs.lemmas.Iterator.Adapters.{serves_from_places}
use Rattle.std.proofs.lemmas.List.{get_or_default}
use Rattle.probed_cells.specs.Search.{asking_in, cell_sound}
use Rattle.probed_cells.proofs.ProbedLists.{all_tested}
use Rattle.probed_cells.proofs.probed_sound.Goals as goal

pub all-requires-clause-callable : goal.all-requires-clause-callable
all-requires-clause-callable c =
    serves_from_places (YieldsList-from_slice c.args.probed.now cc) (λ x q e. search rules)
    (λ x k h e. let m = c.requires.1 k h in let d = get_or_default c.args.probed.now k x.now 0 h in search rules)

pub returns : goal.returns
returns c =
    let b = asking_in c.args.a in
    let l = c.args.probed.now in
    let each = cases_from_all _ _ _ (λ x. cell_sound b x ≡ true) (λ x. cell_sound b x ≡ false) c.all.ensures.ran (YieldsList-from_slice l cc) (λ x q k. search rules) (λ x q k. search rules) in
    all_tested (λ x. cell_sound b x) l _ each
