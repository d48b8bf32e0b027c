-- What an index that passes the whole check can be counted on for, whatever number of cells is probed.
use Prim.Native.Nat.{ℕ, suc, ◌≤◌, ◌<◌}
use mathlib.Core.Path.{◌≡◌}
use mathlib.Core.Bool.{true}
use mathlib.Core.List.{[]}
use native.Mathlib.Nat.{zero-sub}
use native.Mathlib.Decide.{dec_lt}
use native.Mathlib.Omega.{arith}
use lib.ListN.{get_or-eq_default}
use Rattle.lists.specs.Lists.{part}
use Rattle.lists.proofs.Rising.{Rises, rises-of}
use Rattle.celled_lists.specs.Lists.{start_of, list_sound}
use Rattle.celled_lists.specs.Index.{Index}
use Rattle.celled_check.specs.Check.{check_in, index_sound}
use Rattle.policy.specs.Check.{Passes, StandsIn, list_at, Acceptable, probing}
use Rattle.policy.proofs.Check.{list-sound, list-below, list-rises, lists-sound, check-exact, accepts-exact}

module _ (x : Index) (passes : Passes x) where
  pub checked : Acceptable (check_in x passes.work)
  checked = (accepts-exact (check_in x passes.work)).0 passes.accepted

  pub sound : index_sound x ≡ true
  sound = (check-exact x).1 checked.order

  -- a number past the last cell has no rows
  pub no_cell : (c : ℕ) → x.shape.cells ≤ c → list_at x c ≡ []
  unfolding part
  no_cell c h =
      let e : start_of x.starts (suc c) ≡ 0 = get_or-eq_default x.starts 0 (omega (arith, checked.lengths.starts)) in
      rw (e, zero-sub)

  -- so each number's list is sound
  pub list_of : (c : ℕ) → list_sound x.n (list_at x c) ≡ true
  list_of c = elim (dec_lt c x.shape.cells) [
    | yes h ↦ lists-sound x sound c h
    | no h ↦ rw (no_cell c (omega arith)) (list-sound x.n [] (λ i k. absurd (omega arith)) (λ i k. absurd (omega arith)))
  ]

  pub list-rising : (c : ℕ) → Rises 0 (list_at x c)
  list-rising c = rises-of (list_at x c) 0 (λ h. omega arith) (list-rises x.n (list_at x c) (list_of c))

  pub row_below : (c m : ℕ) → StandsIn (list_at x c) m → m < x.n
  row_below c m s = rw s.1.held at (list-below x.n (list_at x c) (list_of c) s.0 s.1.within)

-- an index that passes the whole check passes it with any number of probes within its bound
pub passes-probing : (x : Index) (probes : ℕ) → 1 ≤ probes → probes ≤ x.shape.cells → Passes x → Passes (probing x probes)
passes-probing x probes least most passes =
    let a = checked x passes in
    let b = a.bounds in
    let l = a.lengths in
    let o = a.order in
    record {
      work = passes.work;
      accepted = (accepts-exact (check_in (probing x probes) passes.work)).1 (record {
        bounds = record {
          d-least = b.d-least;
          d-most = b.d-most;
          nsub-least = b.nsub-least;
          nsub-most = b.nsub-most;
          nsub-of-d = b.nsub-of-d;
          bits_most = b.bits_most;
          cells-least = b.cells-least;
          cells-most = b.cells-most;
          probes-least = least;
          probes-most = most;
          n-most = b.n-most;
        };
        lengths = record { coarse = l.coarse; starts = l.starts; members = l.members; subs = l.subs; codes = l.codes; work = l.work };
        order = record {
          first-start = o.first-start;
          last-start = o.last-start;
          never-fall = o.never-fall;
          stands = o.stands;
          once = o.once;
          rises = o.rises;
          below = o.below;
          codes-below = o.codes-below;
        };
      });
    }
