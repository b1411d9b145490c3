-- What the reader's values mean. A borrow of the line stands for the bytes that it lends.
use Rattle.std.specs.Prelude.{ℕ, List, Some, None, Option}
use Rattle.std.specs.Borrow.{Bor}
use Rattle.track.specs.Map as map
use Rattle.reader.specs.declared.words.Call.{Call}
use Rattle.reader.specs.declared.words.Call.TheVariants.{Lay, Strike, Retime, Name}
use Rattle.reader.specs.declared.words.Line.{Line}
use Rattle.reader.specs.declared.words.Line.TheVariants.{Nothing, Call as CallLine, Rule, Route, Survey}
use Rattle.reader.specs.Words.{Said, nothing, unreadable, calls, rules, asks, looks}

-- what was read and what is left of the line
abbrev pub went_on : {X : Type 0} → Option (X × Bor (List ℕ)) → Option (X × List ℕ)
went_on None = None
went_on (Some (x, rest)) = Some (x, rest.now)

abbrev pub call_of : Call → map.Call
call_of (Lay tail head winch time strain) = map.Call.Lay tail head winch time strain
call_of (Strike run) = map.Call.Strike run
call_of (Retime run time) = map.Call.Retime run time
call_of (Name point text) = map.Call.Name point text.now

-- a line that cannot be read has no value
abbrev pub said : Option Line → Said
said None = unreadable
said (Some Nothing) = nothing
said (Some (CallLine c)) = calls (call_of c)
said (Some (Rule r)) = rules r
said (Some (Route q)) = asks q
said (Some (Survey l)) = looks l
