-- The tape written from any rig, played into a new one, has no fault and gives an equal rig.
use Rattle.std.specs.Prelude.{◌≡◌, ℕ, ◌<◌, ◌≤◌, true, List, [], length, None, Option, slice_index_or}
use Rattle.track.specs.declared.rig.Rig.{Rig}
use Rattle.track.specs.declared.rig.GetIn.{GetIn}
use Rattle.track.specs.declared.rig.Show.{Show}
use Rattle.track.specs.Sizes.{points, most_runs}
use Rattle.track.specs.Runs.{run_ok, name_ok, idle}
use Rattle.track.specs.Map.{Map, EqualMaps}
use Rattle.track.specs.Calls.{map_of}
use Rattle.tape.specs.Tape.{tape_of}
use Rattle.desk.specs.Desks.{new_desk, with_map, Reply}
use Rattle.player.specs.Faults.{ToldFault}
use Rattle.player.specs.Play.{items, ends, played, RepliesRight, PlayDone}

-- a map that calls can make: few enough runs, each in range, and a proper name for each point
pub record SoundMap (m : Map) : Type 0 where
  pub room : length m.runs ≤ most_runs
  pub sound : (k : ℕ) → k < length m.runs → run_ok (slice_index_or m.runs k idle) ≡ true
  pub named : length m.names ≡ points
  pub legible : (p : ℕ) → p < points → name_ok (slice_index_or m.names p []) ≡ true

-- the tape of m makes m again: it asks nothing, and ends with no line, no fault and the map m on a desk that is new otherwise
pub record PlaysBack (m : Map) : Type 0 where
  pub asks_nothing : (room : ℕ) → RepliesRight new_desk (items 0 0 (tape_of m)) [] room
  pub makes_it : (replies : List Reply) (room : ℕ) → played new_desk (items 0 0 (tape_of m)) replies room ≡ ends (with_map new_desk m)

-- every rig holds such a map, in either state
abbrev pub RigsAreSound : Type 0
RigsAreSound = ((rig : Rig GetIn) → SoundMap (map_of rig)) × ((rig : Rig Show) → SoundMap (map_of rig))

abbrev pub RoundTrip : Type 0
RoundTrip = (m : Map) → SoundMap m → PlaysBack m

-- so whatever keeps the promise of play on the tape of a rig leaves an equal rig, no fault, and the listing untouched
abbrev pub EqualMap : Map → Type 0
EqualMap m =
    (was is : List ℕ) (map : Map) (len : ℕ) (fault : Option ToldFault) → PlayDone (tape_of m) was map len fault is
    → EqualMaps map m × (len ≡ 0) × (fault ≡ None) × (is ≡ was)

abbrev pub EqualRig : Type 0
EqualRig = ((rig : Rig GetIn) → EqualMap (map_of rig)) × ((rig : Rig Show) → EqualMap (map_of rig))

abbrev pub TapesPlayBack : Type 0
TapesPlayBack = RoundTrip × RigsAreSound × EqualRig
