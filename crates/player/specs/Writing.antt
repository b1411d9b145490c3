-- What the line writer is told, answers and leaves, and how each line begins: for the inner functions of play.
use Rattle.std.specs.Prelude.{ℕ, cond, List, ◌∷◌, ◌++◌, length, drop, Some, None, Ok, Err, Option, Result, nat_le}
use Rattle.tape.specs.declared.command.KindName.{KindName}
use Rattle.tape.specs.Letters.{kind_letter}
use Rattle.desk.specs.declared.ask.Route.{Route}
use Rattle.desk.specs.Desks.{Reply}
use Rattle.player.specs.declared.fault.ListingCause.{ListingCause}
use Rattle.player.specs.declared.fault.ListingCause.TheVariants.{NoRoom}
use Rattle.player.specs.Lines.{field}

-- kind, home and mark
abbrev pub heading : KindName → (home mark : ℕ) → List ℕ
heading kind home mark = kind_letter kind ∷ field home ++ field mark

-- a route, or no way
abbrev pub reply_of : Option Route → Reply
reply_of None = None
reply_of (Some route) = Some (route.cost, route.runs.items)

-- the length of a line that fits into the buffer
abbrev pub line_answer : (line was : List ℕ) → Result ℕ ListingCause
line_answer line was = cond (nat_le (length line) (length was)) (Ok (length line)) (Err NoRoom)

-- the line stands at the buffer's beginning, and the rest is untouched; where it does not fit, all is
abbrev pub line_left : (line was : List ℕ) → List ℕ
line_left line was = cond (nat_le (length line) (length was)) (line ++ drop (length line) was) was
