-- Whole lists of calls on one rig, with what each was answered.
use Rattle.std.specs.Prelude.{◌≡◌, ℕ, Bool, true, false, List, [], ◌∷◌, ◌++◌}
use Rattle.track.specs.Answers.{Answer}
use Rattle.track.specs.Map.{Map, Call, blank, lay_answer, run_answer, name_answer}
use Rattle.track.specs.Map.Call.{Lay, Strike, Retime, Name, Open, Close, Write}
use Rattle.track.specs.Calls.{map_after, LayDone, StrikeDone, RetimeDone, NameDone}

-- a call that was made: its arguments, and behind them what it answered
pub data Event : Type 0 where
  Laid : (tail head winch time strain : ℕ) → Answer ℕ → Event
  Struck : (run : ℕ) → Answer (Unit {0}) → Event
  Retimed : (run time : ℕ) → Answer (Unit {0}) → Event
  Named : (point : ℕ) (text : List ℕ) → Answer (Unit {0}) → Event
  Opened : Event
  Closed : Event
  Written : Event

-- the call alone
abbrev pub call_of : Event → Call
call_of (Laid tail head winch time strain answer) = Lay tail head winch time strain
call_of (Struck run answer) = Strike run
call_of (Retimed run time answer) = Retime run time
call_of (Named point text answer) = Name point text
call_of Opened = Open
call_of Closed = Close
call_of Written = Write

abbrev pub calls_of : List Event → List Call
calls_of [] = []
calls_of (e ∷ es) = call_of e ∷ calls_of es

-- a rig, in get-in or in show, and its map
pub record State : Type 0 where
  pub in_show : Bool
  pub map : Map

abbrev pub get_in : Map → State
get_in m = record { in_show = false; map = m }

abbrev pub show : Map → State
show m = record { in_show = true; map = m }

-- one call takes the rig from the one state to the other: the state allows it, and what the call promises holds
abbrev pub Step : State → Event → State → Type 0
Step a (Laid tail head winch time strain answer) b = (a.in_show ≡ false) × (b.in_show ≡ false) × LayDone a.map tail head winch time strain answer b.map
Step a (Struck run answer) b = (a.in_show ≡ false) × (b.in_show ≡ false) × StrikeDone a.map run answer b.map
Step a (Retimed run time answer) b = (a.in_show ≡ false) × (b.in_show ≡ false) × RetimeDone a.map run time answer b.map
Step a (Named point text answer) b = (a.in_show ≡ false) × (b.in_show ≡ false) × NameDone a.map point text answer b.map
Step a Opened b = (a.in_show ≡ false) × (b.in_show ≡ true) × (b.map ≡ a.map)
Step a Closed b = (a.in_show ≡ true) × (b.in_show ≡ false) × (b.map ≡ a.map)
Step a Written b = (a.in_show ≡ false) × (b.in_show ≡ false) × (b.map ≡ a.map)

-- the calls happened one after another, from one state to another
abbrev pub Happened : State → List Event → State → Type 0
Happened a [] z = a ≡ z
Happened a (e ∷ es) z = (b : State) × Step a e b × Happened b es z

-- the answer is right on this map
abbrev pub Right : Map → Event → Type 0
Right m (Laid tail head winch time strain answer) = answer ≡ lay_answer m tail head winch strain
Right m (Struck run answer) = answer ≡ run_answer m run
Right m (Retimed run time answer) = answer ≡ run_answer m run
Right m (Named point text answer) = answer ≡ name_answer point text
Right m Opened = Unit {0}
Right m Closed = Unit {0}
Right m Written = Unit {0}

-- each answer is right on the map worked out from the calls before it alone
abbrev pub AnswersStand : Type 0
AnswersStand = (before : List Event) (e : Event) (later : List Event) (z : State) → Happened (get_in blank) (before ++ e ∷ later) z → Right (map_after (calls_of before)) e

-- the rig holds the map worked out from all the calls
abbrev pub MapStands : Type 0
MapStands = (es : List Event) (z : State) → Happened (get_in blank) es z → z.map ≡ map_after (calls_of es)

abbrev pub CallsStand : Type 0
CallsStand = AnswersStand × MapStands
