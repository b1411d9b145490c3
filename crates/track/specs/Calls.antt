-- The map that a list of calls leaves, worked out from the list alone; and what each call promises.
use Rattle.std.specs.Prelude.{◌≡◌, ℕ, List, [], ◌∷◌}
use Rattle.track.specs.declared.rig.Rig.{Rig}
use Rattle.track.specs.Answers.{Answer}
use Rattle.track.specs.Map.{Map, Call, blank, after, lay_answer, run_answer, name_answer}
use Rattle.track.specs.Map.Call.{Lay, Strike, Retime, Name}

-- the map that a rig holds
abbrev pub map_of : {S : Type 0} → Rig S → Map
map_of r = record { runs = r.layout.table.runs.items; names = r.layout.names }

abbrev pub afters : Map → List Call → Map
afters m [] = m
afters m (c ∷ cs) = afters (after m c) cs

-- the map after these calls on a new rig
unfoldable pub map_after : List Call → Map
map_after calls = afters blank calls

-- these calls, the first of them on a new rig, left this map
unfoldable pub LeftBy : List Call → Map → Type 0
LeftBy calls m = m ≡ map_after calls

-- What a call on the map m promises: its answer, and the map that it leaves.
abbrev pub LayDone : Map → (tail head winch time strain : ℕ) → Answer ℕ → Map → Type 0
LayDone m tail head winch time strain answer left = (answer ≡ lay_answer m tail head winch strain) × (left ≡ after m (Lay tail head winch time strain))

abbrev pub StrikeDone : Map → (run : ℕ) → Answer (Unit {0}) → Map → Type 0
StrikeDone m run answer left = (answer ≡ run_answer m run) × (left ≡ after m (Strike run))

abbrev pub RetimeDone : Map → (run time : ℕ) → Answer (Unit {0}) → Map → Type 0
RetimeDone m run time answer left = (answer ≡ run_answer m run) × (left ≡ after m (Retime run time))

abbrev pub NameDone : Map → (point : ℕ) (text : List ℕ) → Answer (Unit {0}) → Map → Type 0
NameDone m point text answer left = (answer ≡ name_answer point text) × (left ≡ after m (Name point text))
