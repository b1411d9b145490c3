-- The commands of a tape, and the bytes of one command.
use Rattle.std.specs.Prelude.{ℕ, ◌/◌, ◌%◌, List, [], ◌∷◌, ◌++◌}
use Rattle.tape.specs.declared.command.KindName.{KindName}
use Rattle.tape.specs.declared.command.RuleName.{RuleName}
use Rattle.tape.specs.declared.command.Command.{Command}
use Rattle.tape.specs.declared.command.Command.TheVariants.{Lay, Strike, Retime, Name, SetFlat, SetPoint, SetPair, UseRule, Ask}
use Rattle.tape.specs.Letters.{kind_letter, rule_letter}

-- what a command says; a name stands here with its bytes
pub data Said : Type 0 where
  lay : (tail head winch time strain : ℕ) → Said
  strike : (run : ℕ) → Said
  retime : (run time : ℕ) → Said
  name : (point : ℕ) (text : List ℕ) → Said
  set_flat : (setting : ℕ) → Said
  set_point : (point setting : ℕ) → Said
  set_pair : (arriving leaving setting : ℕ) → Said
  use_rule : RuleName → Said
  ask : KindName → (home mark : ℕ) → Said

-- what a command of the code says, which borrows a name's bytes from the tape
abbrev pub said : Command → Said
said (Lay tail head winch time strain) = lay tail head winch time strain
said (Strike run) = strike run
said (Retime run time) = retime run time
said (Name point text) = name point text.now
said (SetFlat setting) = set_flat setting
said (SetPoint point setting) = set_point point setting
said (SetPair arriving leaving setting) = set_pair arriving leaving setting
said (UseRule rule) = use_rule rule
said (Ask kind home mark) = ask kind home mark

-- an operand of two bytes, the high byte first
abbrev pub two : ℕ → List ℕ
two n = n / 256 ∷ n % 256 ∷ []

-- one byte says which command it is, and its operands follow
abbrev pub bytes_of : Said → List ℕ
bytes_of (lay tail head winch time strain) = 0x52 ∷ tail ∷ head ∷ winch ∷ two time ++ strain ∷ []
bytes_of (strike run) = 0x58 ∷ run ∷ []
bytes_of (retime run time) = 0x54 ∷ run ∷ two time
bytes_of (name point text) = 0x4E ∷ point ∷ text
bytes_of (set_flat setting) = 0x46 ∷ two setting
bytes_of (set_point point setting) = 0x50 ∷ point ∷ two setting
bytes_of (set_pair arriving leaving setting) = 0x4D ∷ arriving ∷ leaving ∷ two setting
bytes_of (use_rule rule) = 0x57 ∷ rule_letter rule ∷ []
bytes_of (ask kind home mark) = 0x51 ∷ kind_letter kind ∷ home ∷ mark ∷ []
