-- `rows_once`: the members are counted in work, which is zero again afterwards.
use mathlib.Core.Path.{◌≡◌, ◌∙◌, ap}
use native.Mathlib.Omega.{arith}
use lib.ListN.{length, take}
use lib.Seq.{length-take-le}
use Rattle.lists.specs.Lists.{fill}
use Rattle.lists.specs.Tests.{every}
use Rattle.celled_check.specs.CheckInner.{is_one}
use Rattle.celled_check.proofs.CheckInner.{once-counted}
use Rattle.celled_check.proofs.rows_once.Goals as goal

pub returns : goal.returns
returns c =
    let counts = c.count_rows.new.counts in
    let w : length counts ≡ length c.args.work.now = omega arith in
    let t : length (take c.args.n counts) ≡ c.args.n = length-take-le c.args.n counts (omega arith) in record {
      once = c.all_one-once.ensures ∙ ap (every (is_one (take c.args.n counts))) t ∙ once-counted c.args.members.now counts c.args.n _ c.count_rows.ensures c.requires.1;
      cleared = c.fill.ensures ∙ ap (fill 0) w;
    }
