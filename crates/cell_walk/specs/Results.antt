-- What a search is lent for its results, and what each of its ends says and leaves there.
use Rattle.std.specs.Prelude.{ℕ, List, [], ◌∷◌, Bool, Ok, Err, length, Float}
use Rattle.answers.specs.declared.Refusal.{Refusal}
use Rattle.answers.specs.declared.SearchAnswer.{SearchAnswer}
use Rattle.answers.specs.Answers.{Searched, number_of, search_said}
use Rattle.lists.specs.Lists.{fill}
use Rattle.metrics.specs.Distance.{zero32}
use Rattle.neighbor.specs.declared.Candidate.{Candidate}
use Rattle.neighbor.specs.Neighbor.{first_of, result_rows, result_sums}
use Rattle.pq_params.specs.declared.Shape.{Shape}
use Rattle.pq_params.specs.Lengths.{table_long}
use Rattle.pq_params.specs.Refusals.{not_long}

-- results: row numbers and sums; table
pub record Lent : Type 0 where
  pub rows : List ℕ
  pub sums : List Float
  pub table : List Float

-- the answer, its number and values by document 01, and the lent buffers afterwards
pub record SearchOut : Type 0 where
  pub answer : Searched
  pub said : SearchAnswer
  pub rows : List ℕ
  pub sums : List Float
  pub table : List Float

-- what a promise builds of what it was lent, and of its answer and what it leaves
abbrev pub lent : List ℕ → List Float → List Float → Lent
lent rows sums table = record { rows = rows; sums = sums; table = table }

abbrev pub search_out : Searched → List ℕ → List Float → List Float → SearchOut
search_out r rows sums table = record { answer = r; said = search_said r; rows = rows; sums = sums; table = table }

-- equal lengths; that length is k
abbrev pub asked_of : Lent → ℕ
asked_of l = length l.rows

abbrev pub lent_lengths : Lent → Shape → List Bool
lent_lengths l z = not_long l.sums (asked_of l) ∷ not_long l.table (table_long z) ∷ []

-- found, the places filled, and scored, the number of candidates; both are 0 in a refusal
abbrev pub said_refused : Refusal → SearchAnswer
said_refused why = record { number = number_of why; found = 0; scored = 0 }

abbrev pub said_done : ℕ → ℕ → SearchAnswer
said_done found scored = record { number = 0; found = found; scored = scored }

-- the answer of a search that was not refused
abbrev pub answer_of : ℕ → ℕ → Searched
answer_of found scored = Ok (record { found = found; scored = scored })

-- refusals 1 to 6: nothing changed
abbrev pub unchanged : Lent → Refusal → SearchOut
unchanged l why = record {
  answer = Err why;
  said = said_refused why;
  rows = l.rows;
  sums = l.sums;
  table = l.table;
}

-- the places that hold the candidates cs, the others blank; table zero
abbrev pub holding : Lent → List Candidate → Searched → SearchAnswer → SearchOut
holding l cs answer said = record {
  answer = answer;
  said = said;
  rows = result_rows (asked_of l) cs;
  sums = result_sums (asked_of l) cs;
  table = fill zero32 (length l.table);
}

-- refusals 10 and 11: results blank, table zero
abbrev pub blank : Lent → Refusal → SearchOut
blank l why = holding l [] (Err why) (said_refused why)

-- The answer is the first k of the ordered candidates.
abbrev pub answered : Lent → List Candidate → SearchOut
answered l cs =
    let first = first_of (asked_of l) cs in
    holding l first (answer_of (length first) (length cs)) (said_done (length first) (length cs))
