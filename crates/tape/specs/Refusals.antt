-- The number of each refusal of write, and of each cause for which a command cannot be read.
use Rattle.std.specs.Prelude.{ℕ}
use Rattle.tape.specs.declared.refusal.WriteRefusal.{WriteRefusal}
use Rattle.tape.specs.declared.refusal.WriteRefusal.TheVariants.{BufferShort}
use Rattle.tape.specs.declared.refusal.TapeCause.{TapeCause}
use Rattle.tape.specs.declared.refusal.TapeCause.TheVariants.{UnknownCommand, TapeEnds, UnknownLetter}

abbrev pub number : WriteRefusal → ℕ
number BufferShort = 17

abbrev pub cause_number : TapeCause → ℕ
cause_number UnknownCommand = 14
cause_number TapeEnds = 15
cause_number UnknownLetter = 16
