use Rattle.std.proofs.Common.{ℕ, ◌+◌, ◌*◌, ◌≤◌, ◌<◌, length}
use Rattle.std.specs.Option.{option_copied}
use Rattle.lists.specs.Lists.{member_of}
use Rattle.replay_kmeans.proofs.fits.are_held.Given as goal

abbrev pub invariant-loop-k : goal.invariant-loop-k
invariant-loop-k l =
    (l.k ≤ l.g.frame.n) × ((i : ℕ) → i < l.k → member_of (option_copied l.g.members) i * l.g.frame.d + l.g.frame.d ≤ length l.g.rows.now)
