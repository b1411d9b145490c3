-- The tape in its two parts, and what is written of it.
use Rattle.std.proofs.Common.{◌≡◌, ℕ, ◌<◌, ◌≤◌, List, [], ◌∷◌, ◌++◌, length, refl, ap, subst}
use Rattle.std.proofs.lemmas.Bool.{lt-ltb, le-ltb}
use Rattle.std.proofs.lemmas.Grind.{flat_map-append}
use Rattle.track.specs.declared.run.Run.{Run}
use Rattle.track.specs.Answers.{Answer, gave, refused}
use Rattle.track.specs.Map.{Map, Call}
use Rattle.track.specs.Map.Call.{Write}
use Rattle.track.specs.Calls.{map_after, LeftBy}
use Rattle.track.proofs.History.{one_more, left_is}
use Rattle.tape.specs.Tape.{numbered, tape_of, WriteDone}
use Rattle.tape.specs.Buffers.{put_front, run_bytes, name_bytes}
use Rattle.tape.proofs.Numbered.{flat_map-numbered}

-- its runs and its names, from what the rig says that they are
pub tape_parts : (m : Map) (rs : List Run) (ns : List (List ℕ)) → rs ≡ m.runs → ns ≡ m.names
    → numbered run_bytes 0 rs ++ numbered name_bytes 0 ns ≡ tape_of m
unfolding tape_of
tape_parts m rs ns r n = rw (r, n) (simp (flat_map-append, flat_map-numbered))

-- a buffer that is too short
pub too_short : (m : Map) (was : List ℕ) → length was < length (tape_of m) → WriteDone m was (refused 17) was
too_short m was h = let t = lt-ltb (length was) (length (tape_of m)) h in (rw t, rw t)

-- a buffer with room, once the tape stands at its beginning
pub with_room : (m : Map) (was : List ℕ) (n : ℕ) (is : List ℕ) → length (tape_of m) ≤ length was → n ≡ length (tape_of m) → is ≡ put_front was (tape_of m) → WriteDone m was (gave n) is
with_room m was n is h e w = let t = le-ltb (length was) (length (tape_of m)) h in (rw t (ap gave e), rw t w)

-- what holds of the map that a rig holds holds of the map worked out from the calls that left it
pub on_history : (m : Map) (was : List ℕ) (answer : Answer ℕ) (is : List ℕ) → WriteDone m was answer is
    → (calls : List Call) → LeftBy calls m → WriteDone (map_after calls) was answer is × LeftBy (calls ++ Write ∷ []) m
on_history m was answer is done calls h =
    (subst (λ (n : Map). WriteDone n was answer is) (left_is calls m h) done, one_more m m Write refl calls h)
