-- What an I/O error leaves of words that are said in turn.
use Rattle.std.proofs.Common.{ℕ, List, ◌++◌, sym, ap, ◌∙◌, append_assoc}
use Rattle.std.specs.Prelude.{Option, Result, Ok, Err, OnErr}
use Rattle.std.specs.Io.KnownBytes.{Appends}
use Rattle.std.proofs.KnownBytes.{Appends-trans}
use Rattle.lending.specs.Failed.{AppendsFront}

-- what holds on every answer
pub on-err : {T E : Type 0} (r : Result T E) (P : Type 0) → P → OnErr r P
on-err (Ok x) P p = tt
on-err (Err e) P p = p

-- more words that were not said
pub front-more : (a b : Option (List ℕ)) (xs ys : List ℕ) → AppendsFront a b xs → AppendsFront a b (xs ++ ys)
front-more a b xs ys f =
    let (front, rest, split, added) = f in
    (front, rest ++ ys, ap (λ l. l ++ ys) split ∙ append_assoc front rest ys, added)

-- words that were said whole before
pub front-after : (a b c : Option (List ℕ)) (xs ys : List ℕ) → Appends a b xs → AppendsFront b c ys → AppendsFront a c (xs ++ ys)
front-after a b c xs ys p f =
    let (front, rest, split, added) = f in
    (xs ++ front, rest, ap (λ l. xs ++ l) split ∙ sym (append_assoc xs front rest), Appends-trans a b c xs front p added)
