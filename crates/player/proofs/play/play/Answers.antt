use Rattle.std.proofs.Common.{ℕ, ◌-◌, ◌<◌, List, length, take, drop, Some, sym, refl, ap, ◌∙◌, subst, arith, rules}
use Rattle.std.proofs.lemmas.List.{places}
use Rattle.std.proofs.lemmas.Slice.{between_to_end}
use Rattle.track.specs.Calls.{map_of}
use Rattle.desk.specs.Desks.{Desk}
use Rattle.player.specs.Faults.{layer_number, layer_name}
use Rattle.player.specs.Play.{ends, faults, PlayDone}
use Rattle.player.specs.Obeying.{desk_in}
use Rattle.player.proofs.Turns.{Handed, begins, goes_on, halts, ends_so, promised}
use Rattle.player.proofs.play.play.Goals as goal

-- the rest of the tape and of the listing, as the call is handed them
handed : (tape l : List ℕ) (at len : ℕ) → at < length tape → Handed tape at len l (take (length tape - at) (drop at tape)) (take (length l - len) (drop len l))
handed tape l at len h =
    record { on = h; tail = between_to_end tape at (length tape) (omega arith); part = between_to_end l len (length l) (omega arith) }

pub loop-at-init : goal.loop-at-init
loop-at-init c = begins c.args.tape.now c.args.listing.now _ c.new-desk.ensures

pub loop-at-preserved : goal.loop-at-preserved
loop-at-preserved c =
    let w = c.in-Ok.ensures in
    goes_on c.args.tape.now c.args.listing.now c.loop-at.at c.loop-at.len (desk_in c.loop-at.desk) c.loop-at.listing _ _ c.loop-at.invariant
    (handed c.args.tape.now c.loop-at.listing c.loop-at.at c.loop-at.len c.loop-at-test.true)
    (desk_in c.obey_next.new.desk) c.obey_next.new.rest c.in-Ok.turn
    w.turned w.within.0 w.within.1 w.within.2 (search (rules, places))

pub returns-in-Err : goal.returns-in-Err
returns-in-Err c =
    let tape = c.args.tape.now in
    let was = c.args.listing.now in
    let l = c.loop-at.listing in
    let d = desk_in c.loop-at.desk in
    let layer = c.in-Err.layer in
    let h =
    halts tape was c.loop-at.at c.loop-at.len d l _ _ c.loop-at.invariant
    (handed tape l c.loop-at.at c.loop-at.len c.loop-at-test.true)
    (desk_in c.obey_next.new.desk) c.obey_next.new.rest layer c.in-Err.ensures.turned in
    subst (λ (z : List ℕ). PlayDone tape was (map_of c.into_rig.result) c.loop-at.len (Some (record { number = layer_number layer; place = c.loop-at.at; layer = layer_name layer })) z) (sym h.2)
    (promised tape was c.loop-at.len l (faults d (layer_number layer) c.loop-at.at (layer_name layer)) _ _ c.loop-at.invariant.room c.loop-at.invariant.back refl
    (c.into_rig.ensures ∙ ap (λ (x : Desk). x.map) h.1) refl h.0)

pub returns : goal.returns
returns c =
    let h = ends_so c.args.tape.now c.args.listing.now c.loop-at.at c.loop-at.len (desk_in c.loop-at.desk) c.loop-at.listing c.loop-at.invariant c.loop-at-test.false in
    promised c.args.tape.now c.args.listing.now c.loop-at.len c.loop-at.listing (ends (desk_in c.loop-at.desk)) _ _ c.loop-at.invariant.room c.loop-at.invariant.back refl
    c.into_rig-2.ensures refl h
