-- A tape that was written and then played.
use Rattle.std.proofs.Common.{◌≡◌, ℕ, Bool, true, false, cond, ltb, List, ◌++◌, length, take, drop, Option, sym, refl, ap, ◌∙◌, subst}
use Rattle.std.proofs.lemmas.List.{take_at}
use Rattle.track.specs.declared.rig.Rig.{Rig}
use Rattle.track.specs.Answers.{gave, refused}
use Rattle.track.specs.Map.{Map}
use Rattle.track.specs.Calls.{map_of}
use Rattle.tape.specs.Tape.{tape_of, WriteDone}
use Rattle.player.specs.Faults.{ToldFault}
use Rattle.player.specs.Play.{PlayDone}
use Rattle.player.specs.Copies.{CopyDone}
use Rattle.player.proofs.Roundtrip.{equal_rig}

-- write gave the tape's length, so the tape stands in the buffer
pub tape_stands : (m : Map) (was is : List ℕ) (n : ℕ) → WriteDone m was (gave n) is → (take n is ≡ tape_of m) × (ltb (length was) (length (tape_of m)) ≡ false)
tape_stands m was is n (a, w) = go (ltb (length was) (length (tape_of m))) refl a w
  where
    go : (b : Bool) → ltb (length was) (length (tape_of m)) ≡ b → gave n ≡ cond b (refused 17) (gave (length (tape_of m))) → is ≡ cond b was (tape_of m ++ drop (length (tape_of m)) was)
        → (take n is ≡ tape_of m) × (ltb (length was) (length (tape_of m)) ≡ false)
    go true t e u = cc
    go false t e u =
        let size : n ≡ length (tape_of m) = cc in
        (ap (take n) u ∙ take_at (tape_of m) (drop (length (tape_of m)) was) n (sym size), t)

-- and whatever plays it has the map of the rig that was written
pub copied : {S : Type 0} (l : Rig S) (was is : List ℕ) (n : ℕ) → WriteDone (map_of l) was (gave n) is
    → (before later : List ℕ) (rig : Map) (len : ℕ) (fault : Option ToldFault) → PlayDone (take n is) before rig len fault later → CopyDone (map_of l) was (gave rig) is
copied l was is n done before later rig len fault p =
    let t = tape_stands (map_of l) was is n done in
    let e = (equal_rig l before later rig len fault (subst (λ (bytes : List ℕ). PlayDone bytes before rig len fault later) t.0 p)).0 in
    let same : rig ≡ map_of l = λ i. record { runs = e.0 i; names = e.1 i } in
    (ap gave same ∙ sym (ap (λ (short : Bool). cond short (refused 17) (gave (map_of l))) t.1), done.1)
