-- The number of each refusal of a call on the map, and its reason in words.
use Rattle.std.specs.Prelude.{ℕ, List, codes}
use Rattle.track.specs.declared.refusal.MapRefusal.{MapRefusal}
use Rattle.track.specs.declared.refusal.MapRefusal.TheVariants.{NoPoint, SamePoint, NoWinch, StrainTooHigh, MapFull, NoRun, RunStruck, BadName}

abbrev pub number : MapRefusal → ℕ
number NoPoint = 1
number SamePoint = 2
number NoWinch = 3
number StrainTooHigh = 4
number MapFull = 5
number NoRun = 6
number RunStruck = 7
number BadName = 13

abbrev pub reason : MapRefusal → List ℕ
reason NoPoint = codes "point above 127"
reason SamePoint = codes "tail and head are the same point"
reason NoWinch = codes "winch above 15"
reason StrainTooHigh = codes "strain above 100"
reason MapFull = codes "256 runs have been laid"
reason NoRun = codes "no such run"
reason RunStruck = codes "run is struck"
reason BadName = codes "a name is eight bytes from 32 to 126"
