-- Laws on the training of one list: its frames are k-means' frames, its k-means those of document 01's sub-spaces, and the walk of the sub-spaces.
use Prim.Native.Nat.{ℕ, zero, suc, ◌+◌, ◌*◌, ◌≤◌, ◌<◌}
use mathlib.Core.Path.{◌≡◌, refl, sym, ◌∙◌, ap, subst}
use mathlib.Core.List.{List}
use mathlib.Core.Bool.{true, false}
use native.Mathlib.Nat.{add_assoc, le_of_lt, mul-add, mul-zero, mul-le-mul_left, mul-le-mul_right}
use native.Mathlib.Decide.{dec_le}
use native.Mathlib.Numerals.{add-one}
use native.Mathlib.Omega.{arith}
use lib.ListN.{length}
use lib.Ieee.{Float, nan}
use Rattle.metrics.proofs.Laws.{residual-part}
use Rattle.lists.specs.Lists.{part_if, part, put_part, fill, Part, member_of}
use Rattle.lists.proofs.Parts.{get_or-part, length-part}
use Rattle.lists.proofs.Joins.{Begins, part_join}
use Rattle.metrics.specs.Distance.{value_in, zero32}
use Rattle.pq_params.specs.declared.Shape.{Shape}
use Rattle.pq_params.specs.Bounds.{bad_plain, centers_of}
use Rattle.pq_params.specs.Ranges.{begin_of, width_of, covered_of}
use Rattle.pq_params.proofs.Bounds.{plain-bounds, range-bounds, centers-some, centers-most}
use Rattle.pq_params.proofs.RangeRule.{begin-zero, begin-next, begin-mono, begin-within, width-most}
use denote.Bor.{Bor}
use Rattle.std.specs.Prelude.{Option, Some, None, IfSome, Ok, Err, is_err, option_copied}
use Rattle.kmeans_assign.specs.Task.{value_at, task_of as frame_task}
use Rattle.kmeans_split.specs.Run.{Run}
use Rattle.kmeans.specs.Kmeans.{train}
use Rattle.kmeans_assign.specs.Assign.{chosen}
use Rattle.kmeans_assign.proofs.Choosing.{chosen-ext}
use Rattle.kmeans_assign.proofs.Rows.{behind}
use Rattle.kmeans.proofs.Reached.{train-sized}
use Rattle.pq_train.specs.declared.RowList.{RowList}
use Rattle.answers.specs.declared.Stage.{Stage}
use Rattle.answers.specs.declared.Stage.TheVariants.{Sub}
use Rattle.answers.specs.declared.Untrained.{Untrained}
use Rattle.answers.specs.Answers.{Clustered, Trained, staged, go_on, draws_used}
use Rattle.pq_train.specs.Training.{Listed, value_on_range, task_of, reached, centers_at, sub_centers, code_of}
use Rattle.pq_train.specs.Inner.{listed_of, frame_of, Listing, FramedIn, RanAt, Centered, list_out, list_outcome, stretch_at, stretch_long, Coding, code_by}
use Rattle.pq_train.proofs.Values.{train-same}

-- ---- one sub-space

-- its stretch lies within the sub-centres, and begins at a number that fits
pub stretch-within : (d nsub k s : ℕ) → s < nsub → k * begin_of d nsub s + k * width_of d nsub s ≤ k * covered_of d nsub
stretch-within d nsub k s h = rw (← mul-add k (begin_of d nsub s) (width_of d nsub s), ← begin-next d nsub s) (mul-le-mul_left k (begin-mono d nsub (suc s) nsub h))

-- a residual's range lies within the residual
range-held : (o : Option (List Float)) (a w d : ℕ) → a + w ≤ d → IfSome o (λ c. d ≤ length c) → IfSome (part_if o a w) (λ r. length r ≡ w)
range-held None a w d h e = tt
range-held (Some c) a w d h e = length-part c a w (omega arith)

-- so what is handed out of it is as long as the range
pub residual-long : (o : Option (Bor (List Float))) (center : Option (List Float)) (a w d n : ℕ) → option_copied o ≡ part_if center a w → a + w ≤ d → IfSome center (λ c. d ≤ length c) → n ≡ w
    → IfSome o (λ r. length r.now ≡ n)
residual-long o center a w d n e h l p = behind o (λ r q. q ∙ sym p) (rw e (range-held center a w d h l))

pub residual-holds : (o : Option (Bor (List Float))) (a w d : ℕ) → a + w ≤ d → IfSome (option_copied o) (λ c. d ≤ length c) → IfSome o (λ c. a + w ≤ length c.now)
residual-holds o a w d h l = behind o (λ c q. omega arith) l

module _ {l : RowList} {draws : List Float} (h : Listing l draws) (s : ℕ) (below : s < l.shape.nsub) where
  abbrev at : ℕ
  at = begin_of l.shape.d l.shape.nsub s

  abbrev wide : ℕ
  wide = width_of l.shape.d l.shape.nsub s

  pub begin-fits : centers_of l.shape.bits * begin_of l.shape.d l.shape.nsub s ≤ 65_536
  begin-fits =
      let p = plain-bounds l.shape h.good in
      omega (arith, mul-le-mul_right (begin_of l.shape.d l.shape.nsub s) (centers-most l.shape.bits p.bits_most), begin-within l.shape.d l.shape.nsub p.range s (le_of_lt below), (range-bounds l.shape.d l.shape.nsub p.range).d-most)

  pub inside : at + wide ≤ l.shape.d
  inside = rw (← begin-next l.shape.d l.shape.nsub s) (begin-within l.shape.d l.shape.nsub (plain-bounds l.shape h.good).range (suc s) below)

  -- what is given for it is held by the slices
  pub frame-held : (residual : Option (Bor (List Float))) → option_copied residual ≡ part_if (option_copied l.center) at wide
      → FramedIn (record { frame = frame_of l s; rows = l.rows; members = l.members; residual = residual })
  frame-held residual e =
      let p = plain-bounds l.shape h.good in
      record {
        framed = record {
          some-row = h.some-row;
          rows-le = h.rows-le;
          some-center = centers-some l.shape.bits;
          centers-le = omega (arith, centers-most l.shape.bits p.bits_most);
          inside = inside;
          wide = width-most l.shape.d l.shape.nsub p.range s;
          residual-long = rw e (range-held (option_copied l.center) at wide l.shape.d inside h.center-long);
          listed-long = h.listed-long;
          held = h.held;
        };
        centers-le = centers-most l.shape.bits p.bits_most;
      }

  -- on its range the given values are those of the list
  value_same : (residual : Option (List Float)) → residual ≡ part_if (option_copied l.center) at wide → (k j : ℕ) → j < wide
      → value_at (frame_of l s) l.rows.now (option_copied l.members) residual k j ≡ value_on_range (listed_of l draws 0) s k j
  value_same residual e k j k<w =
      rw (e, residual-part (option_copied l.center) at wide j k<w, add_assoc (member_of (option_copied l.members) k * l.shape.d) at j)

  -- so its k-means is that of document 01's sub-space
  pub ran-sub : {used place w : ℕ} {subs subs' : List Float} {answer : Clustered} {assigned : List ℕ} (residual : Option (List Float))
      → residual ≡ part_if (option_copied l.center) at wide
      → RanAt (frame_task (frame_of l s) l.rows.now (option_copied l.members) residual l.epochs draws) used place w subs answer subs' assigned
      → RanAt (task_of (listed_of l draws 0) s) used place w subs answer subs' assigned
  ran-sub {used = used} {place = place} {w = w} {subs = subs} residual q r =
      let t = frame_task (frame_of l s) l.rows.now (option_copied l.members) residual l.epochs draws in
      let e = train-same t (value_on_range (listed_of l draws 0) s) (λ k m j k<w. value_same residual q k j k<w) used in
      record {
        said = r.said ∙ ap (λ (q : Run). q.answer) e;
        placed = r.placed ∙ ap (λ (q : Run). put_part subs place w q.centers) e;
        long = sym (ap (λ (q : Run). length q.centers) e) ∙ r.long;
        chosen = r.chosen ∙ ap (λ (q : Run). q.assigned) e;
      }

-- ---- the walk of the sub-spaces

-- an answer that is a refusal
abbrev pub Refusal : Trained → Type 0
Refusal (Ok used) = ⊥
Refusal (Err u) = Unit {0}

-- an answer that succeeds at its stage names the same draws
pub staged-done : (stage : Stage) (c : Clustered) (used : ℕ) → Ok used ≡ staged stage c → c ≡ Ok used
staged-done stage (Ok u) used e = cc
staged-done stage (Err why) used e = cc

stays : (t : Trained) (next : ℕ → Trained) → Refusal t → go_on t next ≡ t
stays (Ok used) next h = absurd h
stays (Err u) next h = refl

-- one more sub-space, and a refusal, from which on nothing changes
pub reached-step : (l : Listed) (s used : ℕ) (c : Clustered) → reached l s ≡ Ok used → c ≡ (train (task_of l s) used).answer → reached l (s + 1) ≡ staged (Sub l.cell s) c
unfolding reached
reached-step l s used c e f = rw (add-one, e, f)

reached-stay : (l : Listed) (s n : ℕ) → s ≤ n → Refusal (reached l s) → reached l n ≡ reached l s
unfolding reached
reached-stay l s zero h r = let e : s ≡ 0 = omega arith in rw e
reached-stay l s (suc n) h r = elim (dec_le s n) [
  | yes k ↦ rw (reached-stay l s n k r) (stays (reached l s) _ r)
  | no k ↦ let e : s ≡ suc n = omega arith in rw e
]

pub reached-refused : (l : Listed) (s n used : ℕ) (c : Clustered) (u : Untrained) → reached l s ≡ Ok used → c ≡ (train (task_of l s) used).answer → Err u ≡ staged (Sub l.cell s) c → s < n
    → Err u ≡ reached l n
reached-refused l s n used c u e f d h =
    let k : reached l (s + 1) ≡ Err u = reached-step l s used c e f ∙ sym d in
    sym (reached-stay l (s + 1) n (omega arith) (subst Refusal (sym k) tt) ∙ k)

-- the centres of sub-space s begin where those before it end
pub centers-begin : (l : Listed) → Begins (centers_at l) (λ (s : ℕ). centers_of l.shape.bits * begin_of l.shape.d l.shape.nsub s)
centers-begin l = record {
  first = rw (begin-zero l.shape.d l.shape.nsub) (mul-zero (centers_of l.shape.bits));
  next = λ s. ap (λ (x : ℕ). centers_of l.shape.bits * x) (begin-next l.shape.d l.shape.nsub s) ∙ mul-add (centers_of l.shape.bits) (begin_of l.shape.d l.shape.nsub s) (width_of l.shape.d l.shape.nsub s)
      ∙ ap (λ (x : ℕ). centers_of l.shape.bits * begin_of l.shape.d l.shape.nsub s + x) (sym (train-sized (task_of l s) (draws_used (reached l s))));
}

pub centers-reached : (l : Listed) (s used : ℕ) → reached l s ≡ Ok used → (train (task_of l s) used).centers ≡ centers_at l s
centers-reached l s used e = sym (ap (λ (t : Trained). (train (task_of l s) (draws_used t)).centers) e)

-- ---- what the training of a list leaves

-- a training that succeeds, and one that is refused
pub list_done : (l : Listed) (long : ℕ) (t : Trained) (subs : List Float) (assigned : List ℕ) → Centered l t subs → is_err t ≡ false → assigned ≡ fill 0 l.n
    → list_out t subs assigned ≡ list_outcome l long
unfolding list_outcome
list_done l long (Ok used) subs assigned c e f = rw (← c.said, f, c.made used refl)
list_done l long (Err u) subs assigned c e f = cc

pub list-refused : (l : Listed) (long : ℕ) (t : Trained) (subs before : List Float) (assigned : List ℕ) → Centered l t before → is_err t ≡ true → subs ≡ fill zero32 long → assigned ≡ fill 0 l.n
    → list_out t subs assigned ≡ list_outcome l long
unfolding list_outcome
list-refused l long (Ok used) subs before assigned c r e f = cc
list-refused l long (Err u) subs before assigned c r e f = rw (← c.said, e, f)

-- ---- a row's codes

-- a range lies within the row, and its stretch within the sub-centres
module _ {z : Shape} {x : List Float} {center : Option (List Float)} {subs : List Float} (h : Coding z x center subs) (s : ℕ) (below : s < z.nsub) where
  pub range_inside : begin_of z.d z.nsub s + width_of z.d z.nsub s ≤ z.d
  range_inside = rw (← begin-next z.d z.nsub s) (begin-within z.d z.nsub (plain-bounds z h.good).range (suc s) below)

  pub code-stretch : stretch_at z s + stretch_long z s ≤ length subs
  code-stretch = rw h.subs-long (stretch-within z.d z.nsub (centers_of z.bits) s below)

-- the nearest centre by the parts of the row, the residual and the sub-centres is the code
pub code-chosen : (z : Shape) (x : List Float) (center : Option (List Float)) (subs xs cs : List Float) (rs : Option (List Float)) (s : ℕ)
    → Part x (begin_of z.d z.nsub s) (width_of z.d z.nsub s) xs
    → rs ≡ part_if center (begin_of z.d z.nsub s) (width_of z.d z.nsub s)
    → Part subs (stretch_at z s) (stretch_long z s) cs
    → chosen (value_in rs xs) cs (length xs) (centers_of z.bits) ≡ code_by z x center subs s
unfolding code_by
code-chosen z x center subs xs cs rs s p q r =
    let b = begin_of z.d z.nsub s in
    let w = width_of z.d z.nsub s in
    rw (p.long, p.is, q, r.is)
    (chosen-ext (value_in (part_if center b w) (part x b w)) (λ (j : ℕ). value_in center x (b + j)) (part subs (stretch_at z s) (stretch_long z s)) w (centers_of z.bits) (λ j h. rw (get_or-part x b w j nan h, residual-part center b w j h)))

-- the stretch of sub-space s of the finished sub-centres is its centres
pub centers-part : (l : Listed) (s : ℕ) → s < l.shape.nsub
    → part (sub_centers l) (centers_of l.shape.bits * begin_of l.shape.d l.shape.nsub s) (centers_of l.shape.bits * width_of l.shape.d l.shape.nsub s) ≡ centers_at l s
unfolding sub_centers
centers-part l s below =
    rw (← train-sized (task_of l s) (draws_used (reached l s))) (part_join (centers_at l) (λ (q : ℕ). centers_of l.shape.bits * begin_of l.shape.d l.shape.nsub q) (centers-begin l) l.shape.nsub s below)

-- against the finished sub-centres of its list, the code of a row with the values v is document 01's
pub code_is : (u : Listed) (x : List Float) (center : Option (List Float)) (v : ℕ → Float) (s : ℕ) → bad_plain u.shape ≡ false → s < u.shape.nsub
    → ((j : ℕ) → j < u.shape.d → value_in center x j ≡ v j) → code_by u.shape x center (sub_centers u) s ≡ code_of u v s
unfolding code_by
code_is u x center v s good below same =
    let z = u.shape in
    let b = begin_of z.d z.nsub s in
    let w = width_of z.d z.nsub s in
    let inside : b + w ≤ z.d = rw (← begin-next z.d z.nsub s) (begin-within z.d z.nsub (plain-bounds z good).range (suc s) below) in
    rw (centers-part u s below) (chosen-ext (λ (j : ℕ). value_in center x (b + j)) (λ (j : ℕ). v (b + j)) (centers_at u s) w (centers_of z.bits) (λ j h. same (b + j) (omega arith)))
