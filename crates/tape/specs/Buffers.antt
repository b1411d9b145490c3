-- Bytes put into a buffer, and the bytes of one run and of one name: for the inner functions of write.
use Rattle.std.specs.Prelude.{ℕ, List, ◌++◌, length, drop}
use Rattle.std.specs.List.{flat_map}
use Rattle.track.specs.declared.run.Run.{Run}
use Rattle.tape.specs.Commands.{bytes_of}
use Rattle.tape.specs.Tape.{run_commands, name_commands}

-- bs over what stands at the front of out
abbrev pub put_front : List ℕ → List ℕ → List ℕ
put_front out bs = bs ++ drop (length bs) out

abbrev pub run_bytes : (number : ℕ) → Run → List ℕ
run_bytes number r = flat_map bytes_of (run_commands number r)

abbrev pub name_bytes : (point : ℕ) → List ℕ → List ℕ
name_bytes point text = flat_map bytes_of (name_commands point text)
