-- The map of a rig, the calls on it, what each answers and what it makes of the map.
-- Everything is worked out from the map and the arguments alone.
use Rattle.std.specs.Prelude.{◌≡◌, ℕ, true, false, not, List, [], ◌∷◌, ◌++◌, length, get_or, replicate, ◌==◌, nat_le, nat_lt, slice_index_or, slice_set}
use Rattle.track.specs.declared.run.Run.{Run}
use Rattle.track.specs.Sizes.{points, winches, most_strain, most_runs}
use Rattle.track.specs.Runs.{idle, name_ok, no_name}
use Rattle.track.specs.Answers.{Answer, gave, check, unless, if_gave}

-- the runs in the order laid, struck ones too, and the name of each point
pub record Map : Type 0 where
  pub runs : List Run
  pub names : List (List ℕ)

-- two rigs are equal when their runs, struck marks and names agree; a run's struck mark is a part of it
abbrev pub EqualMaps : Map → Map → Type 0
EqualMaps m n = (m.runs ≡ n.runs) × (m.names ≡ n.names)

-- the map of a new rig
abbrev pub blank : Map
blank = record { runs = []; names = replicate points no_name }

-- a call on a rig, with its arguments
pub data Call : Type 0 where
  Lay : (tail head winch time strain : ℕ) → Call
  Strike : (run : ℕ) → Call
  Retime : (run time : ℕ) → Call
  Name : (point : ℕ) (text : List ℕ) → Call
  Open : Call
  Close : Call
  -- calls that only look: at a rig in get-in, and at one in show
  Write : Call
  Survey : Call
  Route : Call

-- lay answers the number of the new run
abbrev pub lay_answer : Map → (tail head winch strain : ℕ) → Answer ℕ
lay_answer m tail head winch strain =
    unless
    (check (nat_le points tail) 1
    ∷ check (nat_le points head) 1
    ∷ check (tail == head) 2
    ∷ check (nat_le winches winch) 3
    ∷ check (nat_lt most_strain strain) 4
    ∷ check (nat_le most_runs (length m.runs)) 5
    ∷ [])
    (gave (length m.runs))

-- strike and retime
abbrev pub run_answer : Map → (run : ℕ) → Answer (Unit {0})
run_answer m run =
    unless
    (check (nat_le (length m.runs) run) 6
    ∷ check (get_or m.runs run idle).struck 7
    ∷ [])
    (gave tt)

abbrev pub name_answer : (point : ℕ) (text : List ℕ) → Answer (Unit {0})
name_answer point text =
    unless
    (check (nat_le points point) 1
    ∷ check (not (name_ok text)) 13
    ∷ [])
    (gave tt)

-- a run as it is handed over
abbrev pub fresh : (tail head winch time strain : ℕ) → Run
fresh tail head winch time strain = record { tail = tail; head = head; winch = winch; time = time; strain = strain; struck = false }

-- the same run, struck
abbrev pub stricken : Run → Run
stricken r = record { tail = r.tail; head = r.head; winch = r.winch; time = r.time; strain = r.strain; struck = true }

-- the same run, with another time
abbrev pub timed : ℕ → Run → Run
timed time r = record { tail = r.tail; head = r.head; winch = r.winch; time = time; strain = r.strain; struck = r.struck }

-- the map with that one run altered
abbrev pub altered : Map → ℕ → (Run → Run) → Map
altered m run f = record { runs = slice_set m.runs run (f (slice_index_or m.runs run idle)); names = m.names }

-- the map that a call leaves; a refused call leaves it as it was
abbrev pub after : Map → Call → Map
after m (Lay tail head winch time strain) =
    if_gave (lay_answer m tail head winch strain) (record { runs = m.runs ++ fresh tail head winch time strain ∷ []; names = m.names }) m
after m (Strike run) = if_gave (run_answer m run) (altered m run stricken) m
after m (Retime run time) = if_gave (run_answer m run) (altered m run (timed time)) m
after m (Name point text) = if_gave (name_answer point text) (record { runs = m.runs; names = slice_set m.names point text }) m
after m Open = m
after m Close = m
after m Write = m
after m Survey = m
after m Route = m
