-- What a survey that is put to a desk answers, and what it leaves on the board.
use Rattle.std.specs.Prelude.{◌≡◌, ℕ, List}
use Rattle.track.specs.Sizes.{points, most_runs}
use Rattle.track.specs.Answers.{Answer, gave, refused}
use Rattle.walks.specs.Cheapest.{Task}
use Rattle.routing.specs.Tables.{Place, TableHolds, BoardHolds}
use Rattle.routing.specs.Survey.{survey_answer}
use Rattle.tape.specs.declared.command.KindName.{KindName}
use Rattle.desk.specs.Desks.{Desk, question}

-- a board beside some table that holds the least costs of the runs; the work table is the desk's own
abbrev pub RightBoard : {C : Type 0} → Task C → List (Place C) → Type 0
RightBoard {C} k b = (t : List (Place C)) × TableHolds k t × BoardHolds k t b

-- the board that was b is b', where the answer is this
abbrev pub Looked : {C : Type 0} → Task C → (b : List (Place C)) → Answer (Unit {0}) → (b' : List (Place C)) → Type 0
Looked k b (gave x) b' = RightBoard k b'
Looked k b (refused n) b' = b' ≡ b

-- What a survey promises on a desk, of a board with a place for each point.
abbrev pub LookDone : Desk → KindName → (home : ℕ) → (b : List (Place ℕ)) → Answer (Unit {0}) → (b' : List (Place ℕ)) → Type 0
LookDone d kind home b answer b' = (answer ≡ survey_answer d.map home most_runs points) × Looked (question d kind home) b answer b'
