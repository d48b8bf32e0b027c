use Rattle.std.proofs.Common.{◌≡◌, ◌*◌}
use Rattle.lists.specs.Lists.{put_part, tab}
use Rattle.metrics.specs.Distance.{coordinate}
use Rattle.kmeans_split.specs.Split.{got_at}
use Rattle.kmeans_split.proofs.give.Given as goal

abbrev pub invariant-loop-j : goal.invariant-loop-j
invariant-loop-j l = l.centers ≡ put_part l.initial.centers (l.i * l.w) l.j (tab (got_at (coordinate l.initial.centers l.w l.a)) l.j)
