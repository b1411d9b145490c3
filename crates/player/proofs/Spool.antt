-- The bytes of commands, one after another, are played as those commands.
use Rattle.std.proofs.Common.{◌≡◌, ℕ, suc, ◌+◌, ◌<◌, List, [], ◌∷◌, ◌++◌, length, Ok, sym, refl, ap, ◌∙◌, subst, arith}
use Rattle.std.specs.List.{flat_map}
use Rattle.tape.specs.Commands.{Said, lay, strike, retime, name, set_flat, set_point, set_pair, use_rule, ask, bytes_of}
use Rattle.tape.specs.Reading.{Read, Sized, decode}
use Rattle.tape.proofs.Back.{reads_back}
use Rattle.desk.specs.Desks.{Desk, Reply}
use Rattle.player.specs.Play.{Item, Step, then, items, ends, goes, played, RightStep, RepliesRight}
use Rattle.player.proofs.Undisturbed.{AllDone}

-- a command that was read at this place
abbrev item : (place : ℕ) → Said → Item
item place c = record { place = place; says = Ok c }

-- past the bytes that belong to the command before
skipped : (place : ℕ) (bs rest : List ℕ) → items place (length bs) (bs ++ rest) ≡ items (place + length bs) 0 rest
skipped place [] rest = let e : place ≡ place + 0 = omega arith in ap (λ (n : ℕ). items n 0 rest) e
skipped place (b ∷ bs) rest =
    let e : suc place + length bs ≡ place + suc (length bs) = omega arith in
    skipped (suc place) bs rest ∙ ap (λ (n : ℕ). items n 0 rest) e

first_item : (place : ℕ) (bs rest : List ℕ) (c : Said) → 0 < length bs → decode (bs ++ rest) ≡ Ok (c, length bs)
    → items place 0 (bs ++ rest) ≡ item place c ∷ items (place + length bs) 0 rest
first_item place [] rest c h e = absurd (omega arith)
first_item place (b ∷ bs) rest c h e =
    let n : suc place + length bs ≡ place + suc (length bs) = omega arith in
    ap (λ (r : Read). then r place (λ s. items (suc place) s (bs ++ rest))) e
    ∙ ap (λ (is : List Item). item place c ∷ is) (skipped (suc place) bs rest ∙ ap (λ (k : ℕ). items k 0 rest) n)

some_byte : (c : Said) → 0 < length (bytes_of c)
some_byte (lay tail head winch time strain) = omega arith
some_byte (strike run) = omega arith
some_byte (retime run time) = omega arith
some_byte (name point text) = omega arith
some_byte (set_flat setting) = omega arith
some_byte (set_point point setting) = omega arith
some_byte (set_pair arriving leaving setting) = omega arith
some_byte (use_rule rule) = omega arith
some_byte (ask kind home mark) = omega arith

-- a tape that begins with a command
pub one_command : (place : ℕ) (c : Said) (rest : List ℕ) → Sized c
    → items place 0 (bytes_of c ++ rest) ≡ item place c ∷ items (place + length (bytes_of c)) 0 rest
one_command place c rest h = first_item place (bytes_of c) rest c (some_byte c) (reads_back c rest h)

-- and a play of them ends at the desk that they lead to, whatever replies and room there are
pub done_plays : (place : ℕ) (d e : Desk) (cs : List Said) → AllDone d cs e → (replies : List Reply) (room : ℕ)
    → played d (items place 0 (flat_map bytes_of cs)) replies room ≡ ends e
done_plays place d e [] h replies room = ap ends h
done_plays place d e (c ∷ cs) (b, z, s, h) replies room =
    let next = place + length (bytes_of c) in
    ap (λ (is : List Item). played d is replies room) (one_command place c (flat_map bytes_of cs) z)
    ∙ ap (λ (t : Step). goes t d place replies room (λ f qs left. played f (items next 0 (flat_map bytes_of cs)) qs left)) s
    ∙ done_plays next b e cs h replies room

-- and puts no question
pub done_asks_nothing : (place : ℕ) (d e : Desk) (cs : List Said) → AllDone d cs e → (room : ℕ) → RepliesRight d (items place 0 (flat_map bytes_of cs)) [] room
done_asks_nothing place d e [] h room = refl
done_asks_nothing place d e (c ∷ cs) (b, z, s, h) room =
    let next = place + length (bytes_of c) in
    subst (λ (is : List Item). RepliesRight d is [] room) (sym (one_command place c (flat_map bytes_of cs) z))
    (subst (λ (t : Step). RightStep t d [] room (λ f qs left. RepliesRight f (items next 0 (flat_map bytes_of cs)) qs left)) (sym s)
    (done_asks_nothing next b e cs h room))
