-- The tape written from any rig, played into a new one, gives an equal rig.
use Rattle.std.proofs.Common.{◌≡◌, ℕ, [], ◌++◌, length, drop, replicate, refl, ap, ◌∙◌, subst, arith}
use Rattle.track.specs.declared.rig.Rig.{Rig}
use Rattle.track.specs.Sizes.{points}
use Rattle.track.specs.Runs.{no_name}
use Rattle.track.specs.Map.{Map}
use Rattle.track.specs.Calls.{map_of}
use Rattle.tape.specs.Tape.{numbered, run_commands, name_commands, commands_of, tape_of}
use Rattle.desk.specs.Desks.{new_desk, with_map}
use Rattle.player.specs.Play.{Outcome}
use Rattle.player.specs.Roundtrip.{SoundMap, RoundTrip, EqualMap, TapesPlayBack}
use Rattle.player.proofs.Undisturbed.{AllDone, done_append}
use Rattle.player.proofs.Spool.{done_plays, done_asks_nothing}
use Rattle.player.proofs.Relaid.{holding, runs_again}
use Rattle.player.proofs.Renamed.{names_again}

-- the commands of a map lead from a new desk to one with that map
all_again : (m : Map) → SoundMap m → AllDone new_desk (commands_of m) (with_map new_desk m)
all_again m s =
    done_append new_desk (holding new_desk m.runs (replicate points no_name)) (with_map new_desk m) (numbered run_commands 0 m.runs) (numbered name_commands 0 m.names)
    (runs_again new_desk (replicate points no_name) [] m.runs 0 refl (omega arith) s.sound)
    (subst (λ (n : ℕ). AllDone (holding new_desk m.runs (replicate n no_name)) (numbered name_commands 0 m.names) (with_map new_desk m)) s.named
    (names_again new_desk m.runs [] m.names 0 refl (omega arith) (λ p h. s.legible p (omega arith))))

pub round_trip : RoundTrip
unfolding tape_of
round_trip m s =
    record {
      asks_nothing = done_asks_nothing 0 new_desk (with_map new_desk m) (commands_of m) (all_again m s);
      makes_it = done_plays 0 new_desk (with_map new_desk m) (commands_of m) (all_again m s);
    }

-- in either state
sound_rig : {S : Type 0} (rig : Rig S) → SoundMap (map_of rig)
sound_rig rig = record { room = rig.room; sound = rig.sound; named = rig.named; legible = rig.legible }

pub equal_rig : {S : Type 0} (rig : Rig S) → EqualMap (map_of rig)
equal_rig l was is rig len fault p =
    let e = (round_trip (map_of l) (sound_rig l)).makes_it p.replies (length was) in
    let none : len ≡ 0 = p.len_is ∙ ap (λ (o : Outcome). length o.text) e in
    let same = p.rig_is ∙ ap (λ (o : Outcome). o.desk.map) e in (
      (ap (λ (m : Map). m.runs) same, ap (λ (m : Map). m.names) same),
      none,
      p.fault_is ∙ ap (λ (o : Outcome). o.fault) e,
      p.listing_is ∙ ap (λ (o : Outcome). o.text ++ drop len was) e ∙ ap (λ (n : ℕ). drop n was) none,
    )

pub tapes_play_back : TapesPlayBack
tapes_play_back = (round_trip, (sound_rig, sound_rig), (equal_rig, equal_rig))
