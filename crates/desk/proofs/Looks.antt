-- From a survey's promise on its table and board to the board that a desk leaves.
use Rattle.std.proofs.Common.{◌≡◌, ℕ, ◌≤◌, List, length, take, ap, ◌∙◌, subst}
use Rattle.std.proofs.lemmas.List.{take_all}
use Rattle.track.specs.Sizes.{points, most_runs}
use Rattle.track.specs.Answers.{Answer, gave, refused}
use Rattle.walks.specs.Cheapest.{Task}
use Rattle.routing.specs.Tables.{Place, BoardHolds}
use Rattle.routing.specs.Survey.{survey_answer, TableLeft, BoardLeft, SurveyLeft, SurveyDone}
use Rattle.tape.specs.declared.command.KindName.{KindName}
use Rattle.desk.specs.Desks.{Desk, named_kind, named_rule, question}
use Rattle.desk.specs.Looking.{RightBoard, Looked, LookDone}

pub right_board : {C : Type 0} (k : Task C) (t b t' b' : List (Place C)) → TableLeft k t t' × BoardLeft k t' b b' → length b' ≤ points → RightBoard k b'
right_board k t b t' b' (table, board) few =
    let cut = take (length k.runs) t' in
    (cut, table.holds, subst (BoardHolds k cut) (take_all points b' few) board.holds)

board_left : {C : Type 0} (k : Task C) (t b : List (Place C)) (a : Answer (Unit {0})) (t' b' : List (Place C)) → length b' ≤ points → SurveyLeft k t b a t' b' → Looked k b a b'
board_left k t b (gave x) t' b' few left = right_board k t b t' b' left few
board_left k t b (refused n) t' b' few left = left.1

-- what a survey with a table for every run and a board for every point promises is what a look promises
pub looked : (d : Desk) (kind : KindName) (home : ℕ) (t b : List (Place ℕ)) (a : Answer (Unit {0})) (t' b' : List (Place ℕ)) → length t ≡ most_runs → length b ≡ points → length b' ≤ points
    → SurveyDone (named_kind kind) (named_rule d d.rule) d.map home t b a t' b' → LookDone d kind home b a b'
looked d kind home t b a t' b' places room few (answer, left) =
    (answer ∙ ap (λ n. survey_answer d.map home n (length b)) places ∙ ap (survey_answer d.map home most_runs) room, board_left (question d kind home) t b a t' b' few left)
