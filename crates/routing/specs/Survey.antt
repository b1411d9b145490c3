-- What a survey of a map answers and leaves.
use Rattle.std.specs.Prelude.{◌≡◌, ℕ, List, [], ◌∷◌, length, take, drop, nat_le, nat_lt}
use Rattle.track.specs.Sizes.{points}
use Rattle.track.specs.Answers.{Answer, gave, refused, check, unless}
use Rattle.track.specs.Map.{Map}
use Rattle.walks.specs.Kinds.{Kind}
use Rattle.walks.specs.Rules.{Rule}
use Rattle.walks.specs.Cheapest.{Task, task}
use Rattle.routing.specs.Tables.{Place, TableHolds, BoardHolds}

abbrev pub survey_answer : Map → (home places room : ℕ) → Answer (Unit {0})
survey_answer m home places room =
    unless
    (check (nat_le points home) 1
    ∷ check (nat_lt places (length m.runs)) 8
    ∷ check (nat_lt room points) 10
    ∷ [])
    (gave tt)

-- the table that was t is t': a place for each run laid, and later places untouched
pub record TableLeft {C : Type 0} (k : Task C) (t t' : List (Place C)) : Type 0 where
  pub holds : TableHolds k (take (length k.runs) t')
  pub rest : drop (length k.runs) t' ≡ drop (length k.runs) t

-- the board that was b is b' beside the table t'
pub record BoardLeft {C : Type 0} (k : Task C) (t' b b' : List (Place C)) : Type 0 where
  pub holds : BoardHolds k (take (length k.runs) t') (take points b')
  pub rest : drop points b' ≡ drop points b

-- what is left where the answer is this
abbrev pub SurveyLeft : {C : Type 0} → Task C → (t b : List (Place C)) → Answer (Unit {0}) → (t' b' : List (Place C)) → Type 0
SurveyLeft k t b (gave x) t' b' = TableLeft k t t' × BoardLeft k t' b b'
SurveyLeft k t b (refused n) t' b' = (t' ≡ t) × (b' ≡ b)

-- What a survey promises on the map m: its answer, and what it leaves in the table and on the board.
abbrev pub SurveyDone : {C : Type 0} → Kind C → Rule → Map → (home : ℕ) → (t b : List (Place C)) → Answer (Unit {0}) → (t' b' : List (Place C)) → Type 0
SurveyDone k rule m home t b answer t' b' =
    (answer ≡ survey_answer m home (length t) (length b)) × SurveyLeft (task k rule m.runs home) t b answer t' b'
