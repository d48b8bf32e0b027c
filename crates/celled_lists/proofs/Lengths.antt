-- Test 4 of a celled index: where tests 1, 3 and 4 let an index pass, each of its buffers is of document 01's length.
use mathlib.Core.Path.{◌≡◌}
use mathlib.Core.Bool.{false}
use Rattle.lists.specs.Tests.{any_of}
use Rattle.lists.proofs.Tests.{none}
use Rattle.pq_params.proofs.Refusing.{same-long}
use Rattle.celled_lists.specs.Index.{Index, index_lengths, Sized}

pub sized : (x : Index) → any_of (index_lengths x) ≡ false → Sized x
sized x h =
    let l = none (index_lengths x) h in
    record {
      coarse-long = same-long x.coarse _ (l 0);
      starts-long = same-long x.starts _ (l 1);
      members-long = same-long x.members _ (l 2);
      subs-long = same-long x.subs _ (l 3);
      codes-long = same-long x.codes _ (l 4);
    }
