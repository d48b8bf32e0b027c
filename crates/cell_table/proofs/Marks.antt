-- Laws on what working a table answers: which entries are finite where it is done, and where it is refused.
use Rattle.std.proofs.Common.{◌≡◌, ℕ, ◌<◌, Bool, true, false, refl, sym, ◌∙◌, ap}
use Rattle.std.specs.Prelude.{List, None, Ok, Err, Float}
use Rattle.answers.specs.declared.Refusal.{Refusal}
use Rattle.answers.specs.declared.Refusal.TheVariants.{DistanceNotFinite}
use Rattle.lists.specs.Lists.{tab, grid}
use Rattle.lists.specs.Tests.{every}
use Rattle.lists.proofs.Tests.{every_of, every-false}
use Rattle.metrics.specs.Distance.{worked}
use Rattle.metrics.proofs.Laws.{marked}
use Rattle.cell_table.specs.Tables.{finite_row}
use Rattle.cell_table.specs.TablesInner.{if_finite, finite_at, Stored, Filled}

-- a mark among the first n refuses
pub stored-refused : (f : ℕ → Float) (n i : ℕ) (out : List Float) → i < n → worked (f i) ≡ None → Stored f n out (Err DistanceNotFinite)
stored-refused f n i out h e =
    let all : every (finite_at f) n ≡ false = every-false (finite_at f) n i h (marked (f i) e) in
    record { answer = rw all; entries = λ t. cc }

-- where all n are finite there is no refusal
pub stored-whole : (f : ℕ → Float) (n : ℕ) (out : List Float) → ((i : ℕ) → i < n → finite_at f i ≡ true) → out ≡ tab f n → Stored f n out (Ok tt)
stored-whole f n out h e = record { answer = rw (every_of (finite_at f) n h); entries = λ _. e }

-- what is done says that all is finite
pub ok-finite : (b : Bool) → Ok tt ≡ if_finite b → b ≡ true
ok-finite true e = refl
ok-finite false e = cc

-- a refusal, that it is not, and why
pub err-broken : (b : Bool) (why : Refusal) → Err why ≡ if_finite b → (b ≡ false) × (why ≡ DistanceNotFinite)
err-broken true why e = cc
err-broken false why e = (refl, cc)

module _ (f : ℕ → ℕ → Float) (m n s : ℕ) where
  -- a sub-space that refuses
  pub filled-refused : (out : List Float) (why : Refusal) → s < m → Err why ≡ if_finite (finite_row f n s) → Filled f m n out (Err why)
  filled-refused out why h e =
      let b = err-broken (finite_row f n s) why e in
      let all : every (finite_row f n) m ≡ false = every-false (finite_row f n) m s h b.0 in record {
        answer = e ∙ ap if_finite (b.0 ∙ sym all);
        entries = λ t. cc;
      }

-- all sub-spaces are stored
pub filled-whole : (f : ℕ → ℕ → Float) (m n : ℕ) (out : List Float) → ((s : ℕ) → s < m → finite_row f n s ≡ true) → out ≡ grid f m n → Filled f m n out (Ok tt)
filled-whole f m n out h e = record { answer = rw (every_of (finite_row f n) m h); entries = λ t. e }
