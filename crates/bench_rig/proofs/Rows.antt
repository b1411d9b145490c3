-- From a board to a row of costs, and from row to row.
use Rattle.std.proofs.Common.{Some, None, ◌≡◌, ℕ, ◌+◌, ◌*◌, ◌<◌, ◌≤◌, List, length, get_or, sym, refl, ◌∙◌, subst, inl, inr, arith, rules}
use borrow.Rule.Slice.PartMut.{put_mid}
use Rattle.std.proofs.lemmas.List.{places, get_or-take}
use Rattle.std.proofs.lemmas.Bool.{cases_lt}
use Rattle.std.proofs.lemmas.Bool.Decides.{nat_tests}
use Rattle.track.specs.declared.rig.Rig.{Rig}
use Rattle.track.specs.Sizes.{points, most_runs}
use Rattle.track.specs.Answers.{Answer, gave}
use Rattle.track.specs.Map.{Map}
use Rattle.track.specs.Calls.{map_of}
use Rattle.walks.specs.Rules.{Rule}
use Rattle.walks.specs.Costs.{time_kind}
use Rattle.walks.specs.Cheapest.{Task, task}
use Rattle.routing.specs.Tables.{Place, place, BoardPlace}
use Rattle.routing.specs.Survey.{survey_answer, SurveyDone, SurveyLeft}
use Rattle.bench_rig.specs.Costs.{cost_number, SaysCost, RowHolds, RowsLeft}

-- a rig has at most 256 runs
pub few_runs : {S : Type 0} (l : Rig S) → length (map_of l).runs ≤ most_runs
few_runs l = l.room

says : (k : Task ℕ) (t : List (Place ℕ)) (v : ℕ) (p : Place ℕ) → BoardPlace k t v p → SaysCost k v (cost_number p)
says k t v None none = inr (none, refl)
says k t v (Some p) (least, last) = inl least

-- a survey that finds all the places it asks for is not refused, and the costs on its board are a row
pub row_of : (rule : Rule) (m : Map) (home : ℕ) (t b : List (Place ℕ)) (a : Answer (Unit {0})) (t' b' : List (Place ℕ)) (row : List ℕ)
    → home < points → length m.runs ≤ length t → length b ≡ points → length b' ≡ points
    → SurveyDone time_kind rule m home t b a t' b'
    → ((v : ℕ) → v < length b' → get_or row v 0 ≡ cost_number (place b' v))
    → RowHolds (task time_kind rule m.runs home) row
row_of rule m home t b a t' b' row low laid room room' (answer, left) numbers v lt =
    let k = task time_kind rule m.runs home in
    let accepted : survey_answer m home (length t) (length b) ≡ gave tt = grind (arith, nat_tests) in
    let board = (subst (λ (x : Answer (Unit {0})). SurveyLeft k t b x t' b') (answer ∙ accepted) left).1 in
    let here = subst (BoardPlace k _ v) (get_or-take points b' v None lt) (board.holds v lt) in
    subst (SaysCost k v) (sym (numbers v (omega arith))) (says k _ v (place b' v) here)

-- the places of a list of which a part was written
module _ (was row : List ℕ) (at n : ℕ) (from : at ≤ length was) where
  before_part : (i : ℕ) → i < at → get_or (put_mid at n was row) i 0 ≡ get_or was i 0
  before_part i lt = search (rules, places)

  in_part : (v : ℕ) → v < length row → get_or (put_mid at n was row) (at + v) 0 ≡ get_or row v 0
  in_part v lt = search (rules, places)

  past_part : (i : ℕ) → at + n ≤ i → length row ≡ n → get_or (put_mid at n was row) i 0 ≡ get_or was i 0
  past_part i ge size = search (rules, places)

pub no_rows : (k : ℕ → Task ℕ) (costs : List ℕ) → RowsLeft k 0 costs costs
no_rows k costs = record { rows = λ home v lt. absurd (omega arith); rest = λ i ge. refl }

-- one row more
pub row_more : (k : ℕ → Task ℕ) (homes n : ℕ) (costs was row : List ℕ) → n ≡ points → points * homes + points ≤ length was → length row ≡ points
    → RowHolds (k homes) row → RowsLeft k homes costs was → RowsLeft k (homes + 1) costs (put_mid (points * homes) n was row)
row_more k homes n costs was row part room size holds left =
    let from : points * homes ≤ length was = omega arith in
    record {
      rows = λ home v lt below. elim (cases_lt home homes) [
        | inl old ↦ subst (SaysCost (k home) v) (sym (before_part was row (points * homes) n from (points * home + v) (omega arith))) (left.rows home v old below)
        | inr ge ↦
            let same : homes ≡ home = omega arith in
            subst (λ h. SaysCost (k h) v (get_or (put_mid (points * homes) n was row) (points * h + v) 0)) same
            (subst (SaysCost (k homes) v) (sym (in_part was row (points * homes) n from v (omega arith))) (holds v below))
      ];
      rest = λ i ge. past_part was row (points * homes) n from i (omega arith) (omega arith) ∙ left.rest i (omega arith);
    }
