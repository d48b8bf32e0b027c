use Rattle.std.proofs.Common.{◌<◌, ◌-◌, length, sym, arith}
use borrow.Author.Count.{below_more}
use Rattle.kmeans_average.proofs.Finite.{lowest-is, lowest-none}
use Rattle.kmeans_split.specs.Split.{taken_at, split_task}
use Rattle.kmeans_split.proofs.Donor.{walk-next, left-long, left-at}
use Rattle.kmeans_split.proofs.steps.Goals as goal

pub returns-then-draw-share : goal.returns-then-draw-share
returns-then-draw-share c =
    let p = c.args in
    let l = c.loop-s in
    let h : l.s < length p.draws.now - p.used = rw left-long at c.loop-s-test.true in
    sym (lowest-is (taken_at (split_task p.f p.draws.now) p.counts.now p.used p.i) _ _ h (rw (← left-at p.draws.now p.used l.s h, ← l.invariant.at-walk, ← c.share.ensures) c.if-draw-share.true) l.invariant.none)

pub loop-s-preserved : goal.loop-s-preserved
loop-s-preserved c =
    let p = c.args in
    let l = c.loop-s in
    let h : l.s < length p.draws.now - p.used = rw left-long at c.loop-s-test.true in
    record {
      at-walk = walk-next (split_task p.f p.draws.now) p.i l.s l.a _ l.invariant.at-walk c.next_center-a-in-loop-s.ensures;
      none = below_more _ _ l.invariant.none (rw (← left-at p.draws.now p.used l.s h, ← l.invariant.at-walk, ← c.share.ensures) c.if-draw-share.false);
    }

pub returns : goal.returns
returns c =
    let p = c.args in
    sym (lowest-none (taken_at (split_task p.f p.draws.now) p.counts.now p.used p.i) _ (λ q h. c.loop-s.invariant.none q (omega (arith, left-long p.draws.now p.used))))
