-- What copy answers: a rig with the same map, where the tape has room.
use Rattle.std.specs.Prelude.{◌≡◌, ℕ, List, [], ◌∷◌, length, Ok, Err, Result, nat_lt}
use Rattle.track.specs.declared.rig.Rig.{Rig}
use Rattle.track.specs.declared.rig.GetIn.{GetIn}
use Rattle.track.specs.Answers.{Answer, gave, refused, check, unless}
use Rattle.track.specs.Map.{Map}
use Rattle.track.specs.Calls.{map_of}
use Rattle.tape.specs.declared.refusal.WriteRefusal.{WriteRefusal}
use Rattle.tape.specs.Refusals.{number}
use Rattle.tape.specs.Tape.{tape_of, written}

-- the rig that copy gives, by its map
abbrev pub told_copy : Result (Rig GetIn) WriteRefusal → Answer Map
told_copy (Ok rig) = gave (map_of rig)
told_copy (Err e) = refused (number e)

-- a buffer that is shorter than the tape is refused with 17
abbrev pub copy_answer : Map → (room : ℕ) → Answer Map
copy_answer m room = unless (check (nat_lt room (length (tape_of m))) 17 ∷ []) (gave m)

-- What copy promises on the map m with a buffer that was `was` and is `is`: the buffer is left as write leaves it.
abbrev pub CopyDone : Map → (was : List ℕ) → Answer Map → (is : List ℕ) → Type 0
CopyDone m was answer is = (answer ≡ copy_answer m (length was)) × (is ≡ written (tape_of m) was)
