-- From what a search over the runs leaves to what a survey and a route promise of a rig.
use Rattle.std.proofs.Common.{◌≡◌, ℕ, ◌<◌, ◌≤◌, List, [], ◌∷◌, ◌++◌, length, drop, Some, None, sym, refl, ◌∙◌, subst, subst₂, arith}
use Rattle.std.proofs.lemmas.List.{take_at, drop_at}
use Rattle.std.proofs.lemmas.Bool.Decides.{nat_tests}
use Rattle.track.specs.declared.run.Run.{Run}
use Rattle.track.specs.Sizes.{points}
use Rattle.track.specs.Answers.{Answer, gave, refused}
use Rattle.track.specs.Map.{Map, Call}
use Rattle.track.specs.Map.Call.{Survey, Route}
use Rattle.track.specs.Calls.{map_after, LeftBy}
use Rattle.track.proofs.History.{left_is, one_more}
use Rattle.walks.specs.Kinds.{Kind}
use Rattle.walks.specs.Rules.{Rule}
use Rattle.walks.specs.Cheapest.{Task, task, LeadsTo, Cheapest}
use Rattle.routing.specs.Tables.{Place, reached, TablePlace, TableHolds, BoardPlace, BoardHolds}
use Rattle.routing.specs.Survey.{survey_answer, TableLeft, BoardLeft, SurveyDone}
use Rattle.routing.specs.Route.{route_checks, Routed, RouteLeft, RouteDone}
use Rattle.routing.specs.Chains.{Chain}
use Rattle.routing.proofs.Places.{in_table}

-- what is so where no refusal applies
pub survey_clear : (m : Map) (home places room : ℕ) → gave tt ≡ survey_answer m home places room → (home < points) × (length m.runs ≤ places) × (points ≤ room)
survey_clear m home places room e = (grind (arith, nat_tests), grind (arith, nat_tests), grind (arith, nat_tests))

pub route_clear : (m : Map) (home mark places room : ℕ) → gave tt ≡ route_checks m home mark places room → (length m.runs ≤ places) × (length m.runs ≤ room)
route_clear m home mark places room e = (grind (arith, nat_tests), grind (arith, nat_tests))

-- a table and a board of which the first places were written
module _ {C : Type 0} (k : Task C) where
  table_left : (t new rest : List (Place C)) → length new ≡ length k.runs → rest ≡ drop (length k.runs) t → TableHolds k new → TableLeft k t (new ++ rest)
  table_left t new rest n e holds = record {
    holds = subst (TableHolds k) (sym (take_at new rest (length k.runs) n)) holds;
    rest = drop_at new rest (length k.runs) n ∙ e;
  }

  board_left : (new rest b newb restb : List (Place C)) → length new ≡ length k.runs → length newb ≡ points → restb ≡ drop points b → BoardHolds k new newb → BoardLeft k (new ++ rest) b (newb ++ restb)
  board_left new rest b newb restb n nb eb holds = record {
    holds = subst₂ (BoardHolds k) (sym (take_at new rest (length k.runs) n)) (sym (take_at newb restb points nb)) holds;
    rest = drop_at newb restb points nb ∙ eb;
  }

module _ {C : Type 0} (k : Kind C) (rule : Rule) (home : ℕ) (m : Map) where
  -- what is promised of a rig's map is promised of the map worked out from the calls that left it
  pub survey_promise : (t b : List (Place C)) (a : Answer (Unit {0})) (t' b' : List (Place C)) → SurveyDone k rule m home t b a t' b'
      → record { done : SurveyDone k rule m home t b a t' b'; law : (calls : List Call) → LeftBy calls m → SurveyDone k rule (map_after calls) home t b a t' b' × LeftBy (calls ++ Survey ∷ []) m }
  survey_promise t b a t' b' done =
      record { done = done; law = λ calls left. (subst (λ (x : Map). SurveyDone k rule x home t b a t' b') (left_is calls m left) done, one_more m m Survey refl calls left) }

  pub route_promise : (mark : ℕ) (t : List (Place C)) (l : List ℕ) (a : Answer (ℕ × C)) (t' : List (Place C)) (l' : List ℕ) → RouteDone k rule m home mark t l a t' l'
      → record { done : RouteDone k rule m home mark t l a t' l'; law : (calls : List Call) → LeftBy calls m → RouteDone k rule (map_after calls) home mark t l a t' l' × LeftBy (calls ++ Route ∷ []) m }
  route_promise mark t l a t' l' done =
      record { done = done; law = λ calls left. (subst (λ (x : Map). RouteDone k rule x home mark t l a t' l') (left_is calls m left) done, one_more m m Route refl calls left) }

  module _ (t : List (Place C)) where
    -- a refusal before any search
    pub survey_refused : (b : List (Place C)) (n : ℕ) → refused n ≡ survey_answer m home (length t) (length b) → SurveyDone k rule m home t b (refused n) t b
    survey_refused b n e = (e, (refl, refl))

    pub route_refused : (mark : ℕ) (l : List ℕ) (n : ℕ) → refused n ≡ route_checks m home mark (length t) (length l) → RouteDone k rule m home mark t l (refused n) t l
    route_refused mark l n e = subst (λ (a : Answer (Unit {0})). RouteLeft a (task k rule m.runs home) mark t l (refused n) t l) e (refl, refl, refl)

    -- after a search, whose table and board are cut from those that were lent
    module _ (runs : List Run) (same : runs ≡ m.runs) (new rest : List (Place C)) where
      pub surveyed : (b newb restb : List (Place C)) → gave tt ≡ survey_answer m home (length t) (length b)
          → length new ≡ length runs → rest ≡ drop (length runs) t → TableHolds (task k rule runs home) new
          → length newb ≡ points → restb ≡ drop points b → BoardHolds (task k rule runs home) new newb
          → SurveyDone k rule m home t b (gave tt) (new ++ rest) (newb ++ restb)
      surveyed b newb restb answer = subst
          (λ (x : List Run). length new ≡ length x → rest ≡ drop (length x) t → TableHolds (task k rule x home) new → length newb ≡ points → restb ≡ drop points b → BoardHolds (task k rule x home) new newb
          → SurveyDone k rule m home t b (gave tt) (new ++ rest) (newb ++ restb))
          (sym same)
          (λ n e holds nb eb on-board. (answer, (table_left (task k rule m.runs home) t new rest n e holds, board_left (task k rule m.runs home) new rest b newb restb n nb eb on-board)))

      pub routed : (mark : ℕ) (l : List ℕ) (a : Answer (ℕ × C)) (l' : List ℕ) → gave tt ≡ route_checks m home mark (length t) (length l)
          → length new ≡ length runs → rest ≡ drop (length runs) t → TableHolds (task k rule runs home) new
          → Routed (task k rule runs home) mark l a l'
          → RouteDone k rule m home mark t l a (new ++ rest) l'
      routed mark l a l' clear = subst
          (λ (x : List Run). length new ≡ length x → rest ≡ drop (length x) t → TableHolds (task k rule x home) new → Routed (task k rule x home) mark l a l' → RouteDone k rule m home mark t l a (new ++ rest) l')
          (sym same)
          (λ n e holds way. subst (λ (x : Answer (Unit {0})). RouteLeft x (task k rule m.runs home) mark t l a (new ++ rest) l') clear (table_left (task k rule m.runs home) t new rest n e holds, way))

-- the walk that the board's place of the mark stands for
module _ {C : Type 0} (k : Task C) (t : List (Place C)) (mark : ℕ) (c : C) where
  pub walk_home : (l : List ℕ) → BoardPlace k t mark (reached c None) → Routed k mark l (gave (0, c)) l
  walk_home l (way, (home, start)) = ([], record { among = (sym home, tt); costs = sym start; least = way.1.least }, tt, refl, refl)

  pub walk_by : (r : ℕ) → TableHolds k t → length t ≡ length k.runs → BoardPlace k t mark (reached c (Some r)) → (w : List ℕ) × Cheapest k (LeadsTo k mark) w c × Chain t r w
  walk_by r holds n (way, (away, into, (b, is))) =
      let found : TablePlace k t r (reached c b) = subst (TablePlace k t r) is (holds r (omega (arith, in_table t r c b is))) in (
        found.0,
        record { among = subst (λ (v : ℕ). LeadsTo k v found.0) into found.1.among.1; costs = found.1.costs; least = way.1.least },
        record { ends = found.1.among.0; linked = found.3; once = found.2 },
      )
