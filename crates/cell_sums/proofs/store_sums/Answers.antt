-- `store_sums`: the rows passed have their sums.
use Rattle.std.proofs.Common.{◌≡◌, ◌+◌, ◌-◌, length, ◌∙◌, ap, arith, rules}
use Rattle.lists.specs.Lists.{put_part}
use Rattle.neighbor.specs.declared.Candidate.{Candidate}
use Rattle.cell_sums.specs.SumsInner.{sum_by, candidate_by}
use Rattle.cell_sums.proofs.Summing.{coded-part, mapped_to, mapped-part, mapped-done}
use Rattle.cell_sums.proofs.store_sums.Goals as goal

pub store_four-requires-clause-coded : goal.store_four-requires-clause-coded
store_four-requires-clause-coded c =
    coded-part c.args.t c.args.picked.now c.requires c.loop-picked.j _ c.loop-picked.picked c.loop-picked.invariant.within c.loop-picked.invariant.stored

pub loop-picked-preserved : goal.loop-picked-preserved
unfolding put_part
loop-picked-preserved c =
    let a = c.args in
    let l = c.loop-picked in
    let h = λ (r : Candidate). candidate_by (sum_by a.t) r.row in
    let e : l.j + ((l.j + 4) - l.j) ≡ l.j + 4 = omega arith in record {
      within = omega arith;
      long = search rules;
      stored = rw c.store_four.ensures (mapped-part h a.picked.now l.j ((l.j + 4) - l.j) l.picked l.invariant.within l.invariant.stored) ∙ ap (mapped_to h a.picked.now) e;
    }

pub store_each-requires : goal.store_each-requires
store_each-requires c =
    coded-part c.args.t c.args.picked.now c.requires c.loop-picked.j _ c.loop-picked.picked c.loop-picked.invariant.within c.loop-picked.invariant.stored

pub returns : goal.returns
unfolding put_part
returns c =
    let a = c.args in
    let l = c.loop-picked in
    let h = λ (r : Candidate). candidate_by (sum_by a.t) r.row in
    mapped-done h a.picked.now (l.j + (length l.picked - l.j)) _ (omega arith)
    (rw c.store_each.ensures (mapped-part h a.picked.now l.j (length l.picked - l.j) l.picked l.invariant.within l.invariant.stored))
