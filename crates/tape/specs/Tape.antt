-- The tape of a map, and what write answers and leaves.
use Rattle.std.specs.Prelude.{◌≡◌, ℕ, suc, cond, List, [], ◌∷◌, ◌++◌, length, drop, nat_lt}
use Rattle.std.specs.List.{flat_map}
use Rattle.std.specs.Str.{bytes_eq}
use Rattle.track.specs.declared.run.Run.{Run}
use Rattle.track.specs.Runs.{no_name}
use Rattle.track.specs.Answers.{Answer, gave, check, unless}
use Rattle.track.specs.Map.{Map}
use Rattle.tape.specs.Commands.{Said, lay, strike, name, bytes_of}

-- what each item gives, one after another; f is told the item's number, from k on
abbrev pub numbered : {X Y : Type 0} → (ℕ → X → List Y) → (k : ℕ) → List X → List Y
numbered f k [] = []
numbered f k (x ∷ xs) = f k x ++ numbered f (suc k) xs

-- a run is laid with its present time, and then struck if it is struck
abbrev pub run_commands : (number : ℕ) → Run → List Said
run_commands number r = lay r.tail r.head r.winch r.time r.strain ∷ cond r.struck (strike number ∷ []) []

-- a point is named unless its name is eight spaces
abbrev pub name_commands : (point : ℕ) → List ℕ → List Said
name_commands point text = cond (bytes_eq text no_name) [] (name point text ∷ [])

-- run by run, then name by name
abbrev pub commands_of : Map → List Said
commands_of m = numbered run_commands 0 m.runs ++ numbered name_commands 0 m.names

-- the tape that makes the map again
unfoldable pub tape_of : Map → List ℕ
tape_of m = flat_map bytes_of (commands_of m)

-- write answers the tape's length
abbrev pub write_answer : (tape : List ℕ) (room : ℕ) → Answer ℕ
write_answer tape room = unless (check (nat_lt room (length tape)) 17 ∷ []) (gave (length tape))

-- the tape stands at the buffer's beginning, and the rest is untouched; a buffer that is too short is untouched
abbrev pub written : (tape was : List ℕ) → List ℕ
written tape was = cond (nat_lt (length was) (length tape)) was (tape ++ drop (length tape) was)

-- What write promises on the map m of a buffer that was `was` and is `is`.
abbrev pub WriteDone : Map → (was : List ℕ) → Answer ℕ → (is : List ℕ) → Type 0
WriteDone m was answer is = (answer ≡ write_answer (tape_of m) (length was)) × (is ≡ written (tape_of m) was)
