-- The three costs as sums over the whole walk, and that a walk which repeats no run meets no stop.
use Rattle.std.specs.Prelude.{◌≡◌, ℕ, ◌+◌, ◌*◌, ◌≤◌, min, max, cond, List, [], ◌∷◌}
use Rattle.track.specs.declared.run.Run.{Run}
use Rattle.track.specs.declared.rig.Rig.{Rig}
use Rattle.track.specs.declared.rig.GetIn.{GetIn}
use Rattle.track.specs.declared.rig.Show.{Show}
use Rattle.track.specs.Map.{Call}
use Rattle.track.specs.Calls.{map_of, map_after, LeftBy}
use Rattle.walks.specs.Costs.{time_kind, strain_kind, handover_kind, time_top, handover_top, change}
use Rattle.walks.specs.Rules.{Rule, SoundRule}
use Rattle.walks.specs.Walks.{run_at, joint, penalty_of, differ, cost, Walk, NoRepeat}

-- the tenths of a second that a walk takes: the time of each run, and between two runs the penalty of their joint
abbrev pub tenths : Rule → List Run → List ℕ → ℕ
tenths t m [] = 0
tenths t m (r ∷ []) = (run_at m r).time
tenths t m (q ∷ (r ∷ w)) = (run_at m q).time + penalty_of (joint t (run_at m q) (run_at m r)) + tenths t m (r ∷ w)

-- how many of its joints have two different winches
abbrev pub changes : List Run → List ℕ → ℕ
changes m [] = 0
changes m (r ∷ []) = 0
changes m (q ∷ (r ∷ w)) = cond (differ (run_at m q) (run_at m r)) 1 0 + changes m (r ∷ w)

abbrev pub largest_strain : List Run → List ℕ → ℕ
largest_strain m [] = 0
largest_strain m (r ∷ w) = max (run_at m r).strain (largest_strain m w)

abbrev pub TimeIsSum : Type 0
TimeIsSum = (t : Rule) (m : List Run) (w : List ℕ) → cost time_kind t m w ≡ min (tenths t m w) time_top

abbrev pub StrainIsLargest : Type 0
StrainIsLargest = (t : Rule) (m : List Run) (w : List ℕ) → cost strain_kind t m w ≡ largest_strain m w

abbrev pub HandoversAreSum : Type 0
HandoversAreSum = (t : Rule) (m : List Run) (w : List ℕ) → cost handover_kind t m w ≡ min (tenths t m w + change * changes m w) handover_top

-- 256 runs of 65,535 and 255 joints of 65,534
abbrev pub most_tenths : ℕ
most_tenths = 256 * 65535 + 255 * 65534

-- what is so of a walk that meets no stop
pub record Unstopped (t : Rule) (m : List Run) (w : List ℕ) : Type 0 where
  pub bound : tenths t m w ≤ most_tenths
  pub time : cost time_kind t m w ≡ tenths t m w
  pub handovers : cost handover_kind t m w ≡ tenths t m w + change * changes m w

abbrev pub NoStopOver : List Run → Type 0
NoStopOver m = (t : Rule) (a : ℕ) (w : List ℕ) (b : ℕ) → SoundRule t → Walk m a w b → NoRepeat w → Unstopped t m w

-- over the map of any rig
abbrev pub NoStopMet : Type 0
NoStopMet = ((rig : Rig GetIn) → NoStopOver (map_of rig).runs) × ((rig : Rig Show) → NoStopOver (map_of rig).runs)

-- and over the map worked out from any list of calls that left a rig
abbrev pub NoStopAfterCalls : Type 0
NoStopAfterCalls =
    ((calls : List Call) (rig : Rig GetIn) → LeftBy calls (map_of rig) → NoStopOver (map_after calls).runs)
    × ((calls : List Call) (rig : Rig Show) → LeftBy calls (map_of rig) → NoStopOver (map_after calls).runs)
