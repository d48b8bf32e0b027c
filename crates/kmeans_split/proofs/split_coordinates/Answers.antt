use borrow.Author.Rules.{rules}
use Prim.Native.Nat.{◌*◌, ◌-◌, min}
use mathlib.Core.Path.{◌≡◌}
use native.Mathlib.Nat.{add-sub_cancel_left}
use native.Mathlib.Omega.{arith}
use lib.ListN.{length, length-take, length-drop}
use Rattle.lists.specs.Lists.{part, put_part}
use Rattle.kmeans_split.proofs.Coordinates.{split-is}
use Rattle.kmeans_split.proofs.split_coordinates.Goals as goal

pub returns : goal.returns
unfolding put_part part
returns c =
    let a = c.args in
    let g = c.give in
    let l : length g.new.centers ≡ length a.centers.now = search rules in
    let q : min a.w (length g.new.centers - a.a * a.w) ≡ a.w = omega arith in
    rw (c.keep_rest.ensures, add-sub_cancel_left, length-take, length-drop, q) (split-is a.centers.now g.new.centers a.w a.i a.a c.requires.0 c.requires.1 c.requires.2 g.ensures)
