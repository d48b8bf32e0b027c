use borrow.Author.Rules.{rules}
use native.Mathlib.Omega.{arith}
use Rattle.lists.proofs.Joins.{within}
use Rattle.kmeans_split.specs.Split.{split_task}
use mathlib.Core.Path.{ap₂, ◌≡◌}
use mathlib.Core.Bool.{◌&&◌}
use Rattle.std.specs.Prelude.{Ok}
use Rattle.kmeans_split.proofs.Runs.{split-run}
use lib.ListN.{length}
use mathlib.Core.List.{[]}
use Rattle.kmeans_split.proofs.split_off.Goals as goal

pub split_coordinates-requires : goal.split_coordinates-requires
split_coordinates-requires c =
    let f = c.args.f in
    (omega (arith, within c.args.i f.centers f.w c.requires.1, c.requires.4), omega (arith, within c.args.a f.centers f.w c.requires.2, c.requires.4), c.requires.3)

pub finite_center-kept-requires : goal.finite_center-kept-requires
finite_center-kept-requires c =
    let f = c.args.f in
    let l : length c.split_coordinates.new.centers ≡ length c.args.centers.now = search rules in
    omega (arith, within c.args.a f.centers f.w c.requires.2, c.requires.4)

pub finite_center-got-requires : goal.finite_center-got-requires
finite_center-got-requires c =
    let f = c.args.f in
    let l : length c.split_coordinates.new.centers ≡ length c.args.centers.now = search rules in
    omega (arith, within c.args.i f.centers f.w c.requires.1, c.requires.4)

pub returns-then-got-kept : goal.returns-then-got-kept
returns-then-got-kept c =
    let s = c.args in
    λ to. rw c.if-got-kept.true at (split-run (split_task s.f []) s.epoch s.i s.a s.used s.centers.now _ to s.counts.now _ (Ok s.used) c.split_coordinates.ensures c.split_count.ensures _ (ap₂ ◌&&◌ c.finite_center-got.ensures c.finite_center-kept.ensures))

pub returns-else-got-kept : goal.returns-else-got-kept
returns-else-got-kept c =
    let s = c.args in
    λ to. rw c.if-got-kept.false at (split-run (split_task s.f []) s.epoch s.i s.a s.used s.centers.now _ to s.counts.now _ (Ok s.used) c.split_coordinates.ensures c.split_count.ensures _ (ap₂ ◌&&◌ c.finite_center-got.ensures c.finite_center-kept.ensures))
