-- What the bytes of a tape say.
use Rattle.std.specs.Prelude.{◌≡◌, ℕ, ◌+◌, ◌*◌, ◌<◌, cond, List, ◌++◌, length, take, drop, Some, None, Ok, Err, Option, Result, ◌==◌, nat_le, slice_index}
use Rattle.tape.specs.declared.command.KindName.{KindName}
use Rattle.tape.specs.declared.command.RuleName.{RuleName}
use Rattle.tape.specs.declared.command.Command.{Command}
use Rattle.tape.specs.declared.refusal.TapeCause.{TapeCause}
use Rattle.tape.specs.declared.refusal.TapeCause.TheVariants.{UnknownCommand, TapeEnds, UnknownLetter}
use Rattle.tape.specs.Letters.{kind_named, rule_named}
use Rattle.tape.specs.Commands.{Said, said, bytes_of, lay, strike, retime, name, set_flat, set_point, set_pair, use_rule, ask}

-- the command at the front of some bytes and how many bytes it has, or why it cannot be read
abbrev pub Read : Type 0
Read = Result (Said × ℕ) TapeCause

-- the operand at a place: one byte, two bytes, eight bytes
abbrev pub one_at : List ℕ → ℕ → ℕ
one_at s i = slice_index s i

abbrev pub two_at : List ℕ → ℕ → ℕ
two_at s i = 256 * slice_index s i + slice_index s (i + 1)

abbrev pub text_at : List ℕ → ℕ → List ℕ
text_at s i = take 8 (drop i s)

-- a command of n bytes, where the tape has them all
abbrev pub whole : List ℕ → (n : ℕ) → Read → Read
whole s n r = cond (nat_le n (length s)) r (Err TapeEnds)

-- the operands are read before a letter is judged
abbrev pub switched : Option RuleName → Read
switched (Some rule) = Ok (use_rule rule, 2)
switched None = Err UnknownLetter

abbrev pub asked : Option KindName → (home mark : ℕ) → Read
asked (Some kind) home mark = Ok (ask kind home mark, 4)
asked None home mark = Err UnknownLetter

-- by the first byte: R, X, T, N, F, P, M, W, Q
abbrev pub decode : List ℕ → Read
decode s =
    cond (one_at s 0 == 0x52) (whole s 7 (Ok (lay (one_at s 1) (one_at s 2) (one_at s 3) (two_at s 4) (one_at s 6), 7)))
    (cond (one_at s 0 == 0x58) (whole s 2 (Ok (strike (one_at s 1), 2)))
    (cond (one_at s 0 == 0x54) (whole s 4 (Ok (retime (one_at s 1) (two_at s 2), 4)))
    (cond (one_at s 0 == 0x4E) (whole s 10 (Ok (name (one_at s 1) (text_at s 2), 10)))
    (cond (one_at s 0 == 0x46) (whole s 3 (Ok (set_flat (two_at s 1), 3)))
    (cond (one_at s 0 == 0x50) (whole s 4 (Ok (set_point (one_at s 1) (two_at s 2), 4)))
    (cond (one_at s 0 == 0x4D) (whole s 5 (Ok (set_pair (one_at s 1) (one_at s 2) (two_at s 3), 5)))
    (cond (one_at s 0 == 0x57) (whole s 2 (switched (rule_named (one_at s 1))))
    (cond (one_at s 0 == 0x51) (whole s 4 (asked (kind_named (one_at s 1)) (one_at s 2) (one_at s 3)))
    (Err UnknownCommand)))))))))

-- what the code read, with the command as it is said
abbrev pub told_read : Result (Command × ℕ) TapeCause → Read
told_read (Ok (c, n)) = Ok (said c, n)
told_read (Err e) = Err e

-- the command's two-byte operands have two bytes, and its name has eight
abbrev pub Sized : Said → Type 0
Sized (lay tail head winch time strain) = time < 65536
Sized (strike run) = Unit {0}
Sized (retime run time) = time < 65536
Sized (name point text) = length text ≡ 8
Sized (set_flat setting) = setting < 65536
Sized (set_point point setting) = setting < 65536
Sized (set_pair arriving leaving setting) = setting < 65536
Sized (use_rule rule) = Unit {0}
Sized (ask kind home mark) = Unit {0}

-- the bytes of a command are read as that command, whatever follows
abbrev pub ReadsBack : Type 0
ReadsBack = (c : Said) (rest : List ℕ) → Sized c → decode (bytes_of c ++ rest) ≡ Ok (c, length (bytes_of c))
