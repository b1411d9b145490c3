-- The number of each fault, the word of its layer, and its text.
use Rattle.std.specs.Prelude.{ℕ, List, ◌++◌, Some, None, codes, decimal, Option}
use Rattle.track.specs.Refusals.{number as map_number}
use Rattle.walks.specs.Refusals.{number as rule_number}
use Rattle.routing.specs.Refusals.{number as search_number}
use Rattle.tape.specs.Refusals.{cause_number as tape_number}
use Rattle.player.specs.declared.fault.ListingCause.{ListingCause}
use Rattle.player.specs.declared.fault.ListingCause.TheVariants.{NoRoom}
use Rattle.player.specs.declared.fault.Layer.{Layer}
use Rattle.player.specs.declared.fault.Layer.TheVariants.{Tape, Map, Rule, Search, Listing}
use Rattle.player.specs.declared.fault.Fault.{Fault}

-- the five layers
pub data LayerName : Type 0 where
  in_tape : LayerName
  in_map : LayerName
  in_rule : LayerName
  in_search : LayerName
  in_listing : LayerName

-- the word by which a layer is told
abbrev pub word : LayerName → List ℕ
word in_tape = codes "tape"
word in_map = codes "map"
word in_rule = codes "rule"
word in_search = codes "search"
word in_listing = codes "listing"

abbrev pub listing_number : ListingCause → ℕ
listing_number NoRoom = 18

abbrev pub layer_name : Layer → LayerName
layer_name (Tape cause) = in_tape
layer_name (Map cause) = in_map
layer_name (Rule cause) = in_rule
layer_name (Search cause) = in_search
layer_name (Listing cause) = in_listing

abbrev pub layer_number : Layer → ℕ
layer_number (Tape cause) = tape_number cause
layer_number (Map cause) = map_number cause
layer_number (Rule cause) = rule_number cause
layer_number (Search cause) = search_number cause
layer_number (Listing cause) = listing_number cause

-- a fault as it is told: its number, its place and its layer
pub record ToldFault : Type 0 where
  pub number : ℕ
  pub place : ℕ
  pub layer : LayerName

abbrev pub told_fault : Fault → ToldFault
told_fault f = record { number = layer_number f.layer; place = f.place; layer = layer_name f.layer }

abbrev pub told_faults : Option Fault → Option ToldFault
told_faults None = None
told_faults (Some f) = Some (told_fault f)

-- the text that tells a fault: its number, its place and its layer
abbrev pub fault_text : ToldFault → List ℕ
fault_text f = codes "fault " ++ (decimal f.number ++ (codes " at " ++ (decimal f.place ++ (codes " in " ++ word f.layer))))
