-- What the code's desk holds, and what it makes of one command: for the inner functions of play.
use Rattle.std.specs.Prelude.{◌≡◌, ℕ, cond, List, length, IfOk, Ok, Err, Result, nat_le}
use Rattle.track.specs.Calls.{map_of}
use Rattle.tape.specs.Refusals.{cause_number}
use Rattle.tape.specs.Reading.{Read}
use Rattle.desk.specs.Desks.{Desk, Reply, RightReply}
use Rattle.desk.specs.Asking.{desk_of}
use Rattle.player.specs.declared.fault.Layer.{Layer}
use Rattle.player.specs.declared.keeping.Desk.{Desk as DeskKept}
use Rattle.player.specs.declared.play.Turn.{Turn}
use Rattle.player.specs.Faults.{LayerName, in_tape, in_listing, layer_number, layer_name}
use Rattle.player.specs.Lines.{line_of}
use Rattle.player.specs.Writing.{line_left}
use Rattle.player.specs.Play.{Step, step, done, failed, asked}

-- the desk that the code keeps
abbrev pub desk_in : DeskKept → Desk
desk_in d = desk_of (map_of d.rig) d.rules

-- a number of bytes, or the number and the layer of a fault
abbrev pub ToldTurn : Type 0
ToldTurn = Result ℕ (ℕ × LayerName)

abbrev pub told_turn : Result ℕ Layer → ToldTurn
told_turn (Ok n) = Ok n
told_turn (Err e) = Err (layer_number e, layer_name e)

-- the length of a line that fits, or else the fault 18
abbrev pub line_told : (line was : List ℕ) → ToldTurn
line_told line was = cond (nat_le (length line) (length was)) (Ok (length line)) (Err (18, in_listing))

-- What a command on the desk d leaves, where it comes to this: the answer, the desk, and the rest of the listing, which was `was` and is `is`.
abbrev pub Obeyed : Step → Desk → (was : List ℕ) → ToldTurn → Desk → (is : List ℕ) → Type 0
Obeyed (done e) d was r d' is = (r ≡ Ok 0) × (d' ≡ e) × (is ≡ was)
Obeyed (failed n layer) d was r d' is = (r ≡ Err (n, layer)) × (d' ≡ d) × (is ≡ was)
Obeyed (asked kind home mark) d was r d' is =
    (reply : Reply) × RightReply d kind home mark reply × (r ≡ line_told (line_of kind home mark reply) was) × (d' ≡ d) × (is ≡ line_left (line_of kind home mark reply) was)

-- a turn as it is told: how many bytes were written
abbrev pub told_written : Result Turn Layer → ToldTurn
told_written (Ok t) = Ok t.written
told_written (Err e) = Err (layer_number e, layer_name e)

-- The same of a command that has yet to be read; so many bytes of the tape are read.
abbrev pub Turned : Read → Desk → (was : List ℕ) → Result Turn Layer → Desk → (is : List ℕ) → Type 0
Turned (Ok (c, n)) d was r d' is = Obeyed (step d c) d was (told_written r) d' is × IfOk r (λ t. t.read ≡ n)
Turned (Err e) d was r d' is = (told_written r ≡ Err (cause_number e, in_tape)) × (d' ≡ d) × (is ≡ was)
