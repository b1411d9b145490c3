-- What C hands over, read as calls.
use Rattle.std.specs.Prelude.{ℕ, List, map, replicate, fold}
use Rattle.track.specs.Sizes.{winches}
use Rattle.track.specs.Map.{Call}
use Rattle.track.specs.Map.Call.{Lay}
use Rattle.walks.specs.Settings.{pair_after}
use Rattle.bench_rig.specs.declared.given.GivenRun.{GivenRun}
use Rattle.bench_rig.specs.declared.given.GivenSetting.{GivenSetting}

-- a call of lay for each run
abbrev pub lay_of : GivenRun → Call
lay_of x = Lay x.tail x.head x.winch x.time x.strain

abbrev pub lays : List GivenRun → List Call
lays given = map lay_of given

-- the settings of a new pair rule once these were set in turn
abbrev pub once_set : List (List ℕ) → GivenSetting → List (List ℕ)
once_set settings x = pair_after settings x.arriving x.leaving x.setting

abbrev pub settings_after : List GivenSetting → List (List ℕ)
settings_after given = fold once_set (replicate winches (replicate winches 0)) given
