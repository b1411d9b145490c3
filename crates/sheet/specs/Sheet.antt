-- The calls that a sheet makes of the rig, line by line.
use Rattle.std.specs.Prelude.{ℕ, List, [], ◌∷◌}
use Rattle.std.specs.List.{flat_map}
use Rattle.track.specs.Map.{Call}
use Rattle.track.specs.Map.Call.{Open, Route, Close}
use Rattle.reader.specs.Words.{Said, nothing, unreadable, calls, rules, asks, looks, says}
use Rattle.reader.specs.Sheet.{lines}

-- a line makes one call, or none; for a question the rig is opened and closed again, but not for a survey, which no sheet asks
abbrev pub called : Said → List Call
called nothing = []
called unreadable = []
called (calls c) = c ∷ []
called (rules r) = []
called (asks q) = Open ∷ Route ∷ Close ∷ []
called (looks l) = []

abbrev pub sheet_calls : List ℕ → List Call
sheet_calls text = flat_map (λ line. called (says line)) (lines text)
