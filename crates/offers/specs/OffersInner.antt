-- Candidates that are offered to the results one after the other.
use Rattle.std.specs.Prelude.{List, [], ◌∷◌, Bool, not}
use Rattle.neighbor.specs.declared.Candidate.{Candidate}
use Rattle.neighbor.specs.Neighbor.{comes_before}
use Rattle.neighbor.specs.Gathered.{Runs, offered}

-- the candidates cs, each in its turn
unfoldable pub offered_all : Runs → List Candidate → Runs
offered_all s [] = s
offered_all s (c ∷ cs) = offered_all (offered s c) cs

-- whether d does not come before c
abbrev pub behind : Candidate → Candidate → Bool
behind c d = not (comes_before d c)
