-- What is told to C of a play: plain numbers.
use Rattle.std.specs.Prelude.{◌≡◌, ℕ, List, Some, None, Option}
use Rattle.track.specs.Map.{Map}
use Rattle.player.specs.Faults.{LayerName, in_tape, in_map, in_rule, in_search, in_listing, ToldFault}
use Rattle.player.specs.Play.{PlayDone}
use Rattle.kobrinza.specs.declared.Report.{Report}

-- the five layers; 0 is no layer
abbrev pub layer_code : LayerName → ℕ
layer_code in_tape = 1
layer_code in_map = 2
layer_code in_rule = 3
layer_code in_search = 4
layer_code in_listing = 5

-- all three are 0 where there is no fault
abbrev pub number_of : Option ToldFault → ℕ
number_of None = 0
number_of (Some f) = f.number

abbrev pub place_of : Option ToldFault → ℕ
place_of None = 0
place_of (Some f) = f.place

abbrev pub layer_of : Option ToldFault → ℕ
layer_of None = 0
layer_of (Some f) = layer_code f.layer

-- What the export promises: the report is that of a play of the tape into the listing buffer, which was `was` and is `is`.
pub record Reported (bytes was : List ℕ) (report : Report) (is : List ℕ) : Type 0 where
  pub rig : Map
  pub fault : Option ToldFault
  pub done : PlayDone bytes was rig report.len fault is
  pub number_is : report.fault ≡ number_of fault
  pub place_is : report.place ≡ place_of fault
  pub layer_is : report.layer ≡ layer_of fault
