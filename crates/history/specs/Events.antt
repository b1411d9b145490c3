-- Whole lists of calls on one rig, surveys and routes among them, with what each was answered and what it left.
use Rattle.std.specs.Prelude.{◌≡◌, true, List, [], ◌∷◌, ◌++◌, ℕ}
use Rattle.track.specs.Answers.{Answer}
use Rattle.track.specs.Map.{Map, Call, blank}
use Rattle.track.specs.Map.Call.{Survey, Route}
use Rattle.track.specs.Calls.{map_after}
use Rattle.track.specs.History.{State, get_in}
use Rattle.track.specs.History.{Event as MapEvent, call_of as map_call_of, Step as MapStep, Right as MapRight}
use Rattle.walks.specs.Kinds.{Kind, Lawful}
use Rattle.walks.specs.Rules.{Rule, SoundRule}
use Rattle.routing.specs.Tables.{Place}
use Rattle.routing.specs.Survey.{SurveyDone}
use Rattle.routing.specs.Route.{RouteDone}

-- A call that was made: its arguments with every buffer as it was, what it answered, and every buffer as it is.
-- Each survey and each route has a kind, a rule and a type of costs of its own.
pub data Event : Type 1 where
  OnMap : MapEvent → Event
  Surveyed : {C : Type 0} (k : Kind C) (rule : Rule) (home : ℕ) (t b : List (Place C)) (answer : Answer (Unit {0})) (t' b' : List (Place C)) → Event
  Routed : {C : Type 0} (k : Kind C) (rule : Rule) (home mark : ℕ) (t : List (Place C)) (l : List ℕ) (answer : Answer (ℕ × C)) (t' : List (Place C)) (l' : List ℕ) → Event

-- the call alone
abbrev pub call_of : Event → Call
call_of (OnMap e) = map_call_of e
call_of (Surveyed k rule home t b answer t' b') = Survey
call_of (Routed k rule home mark t l answer t' l') = Route

abbrev pub calls_of : List Event → List Call
calls_of [] = []
calls_of (e ∷ es) = call_of e ∷ calls_of es

-- One call takes the rig from the one state to the other: the state allows it, and what the call promises holds.
-- Kind and rule are lawful, as those of every implementation are.
abbrev pub Step : State → Event → State → Type 0
Step a (OnMap e) b = MapStep a e b
Step a (Surveyed k rule home t b answer t' b') z =
    (a.in_show ≡ true) × (z ≡ a) × Lawful k × SoundRule rule × SurveyDone k rule a.map home t b answer t' b'
Step a (Routed k rule home mark t l answer t' l') z =
    (a.in_show ≡ true) × (z ≡ a) × Lawful k × SoundRule rule × RouteDone k rule a.map home mark t l answer t' l'

-- the calls happened one after another, from one state to another
abbrev pub Happened : State → List Event → State → Type 0
Happened a [] z = a ≡ z
Happened a (e ∷ es) z = (b : State) × Step a e b × Happened b es z

-- the outcome is right on this map
abbrev pub Right : Map → Event → Type 0
Right m (OnMap e) = MapRight m e
Right m (Surveyed k rule home t b answer t' b') = SurveyDone k rule m home t b answer t' b'
Right m (Routed k rule home mark t l answer t' l') = RouteDone k rule m home mark t l answer t' l'

-- In every list of calls that the two states of a rig allow, beginning with a new rig,
-- each outcome is right on the map worked out from the calls before it alone, and the rig holds the map worked out from all of them.
abbrev pub CallsStand : Type 1
CallsStand =
    ((before : List Event) (e : Event) (later : List Event) (z : State) → Happened (get_in blank) (before ++ e ∷ later) z → Right (map_after (calls_of before)) e)
    × ((es : List Event) (z : State) → Happened (get_in blank) es z → z.map ≡ map_after (calls_of es))
