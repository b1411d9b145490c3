-- A map beside the three hand-over rules and the rule in force, and what a right reply to a question is.
use Rattle.std.specs.Prelude.{ℕ, List, replicate, Some, None, Option}
use Rattle.track.specs.Sizes.{points, winches}
use Rattle.track.specs.Map.{Map, blank}
use Rattle.walks.specs.Kinds.{Kind}
use Rattle.walks.specs.Costs.{time_kind, strain_kind, handover_kind}
use Rattle.walks.specs.Rules.{Rule}
use Rattle.walks.specs.Settings.{flat_rule, point_rule, pair_rule}
use Rattle.walks.specs.Walks.{NoRepeat}
use Rattle.walks.specs.Cheapest.{Task, task, LeadsTo, NoWalk, Cheapest}
use Rattle.tape.specs.declared.command.KindName.{KindName}
use Rattle.tape.specs.declared.command.KindName.TheVariants.{Time, Strain, HandOvers}
use Rattle.tape.specs.declared.command.RuleName.{RuleName}
use Rattle.tape.specs.declared.command.RuleName.TheVariants.{Flat, Point, Pair}

-- the map, the settings of the three rules, and the rule for later questions
pub record Desk : Type 0 where
  pub map : Map
  pub flat : ℕ
  pub point : List ℕ
  pub pair : List (List ℕ)
  pub rule : RuleName

-- a new rig and new rules
abbrev pub new_desk : Desk
new_desk = record { map = blank; flat = 0; point = replicate points 0; pair = replicate winches (replicate winches 0); rule = Flat }

-- the same desk with one part altered
abbrev pub with_map : Desk → Map → Desk
with_map d m = record { map = m; flat = d.flat; point = d.point; pair = d.pair; rule = d.rule }

abbrev pub with_flat : Desk → ℕ → Desk
with_flat d s = record { map = d.map; flat = s; point = d.point; pair = d.pair; rule = d.rule }

abbrev pub with_point : Desk → List ℕ → Desk
with_point d s = record { map = d.map; flat = d.flat; point = s; pair = d.pair; rule = d.rule }

abbrev pub with_pair : Desk → List (List ℕ) → Desk
with_pair d s = record { map = d.map; flat = d.flat; point = d.point; pair = s; rule = d.rule }

abbrev pub with_rule : Desk → RuleName → Desk
with_rule d r = record { map = d.map; flat = d.flat; point = d.point; pair = d.pair; rule = r }

-- the rule by which a question is judged
abbrev pub named_rule : Desk → RuleName → Rule
named_rule d Flat = flat_rule d.flat
named_rule d Point = point_rule d.point
named_rule d Pair = pair_rule d.pair

-- the kind that a question names
abbrev pub named_kind : KindName → Kind ℕ
named_kind Time = time_kind
named_kind Strain = strain_kind
named_kind HandOvers = handover_kind

abbrev pub question : Desk → KindName → (home : ℕ) → Task ℕ
question d kind home = task (named_kind kind) (named_rule d d.rule) d.map.runs home

-- an answer to a question: the cost and the runs of a route, or no way
abbrev pub Reply : Type 0
Reply = Option (ℕ × List ℕ)

-- a reply is right on the map and by the rule of the desk: a cheapest legal walk that repeats no run, or no way where there is none
abbrev pub RightReply : Desk → KindName → (home mark : ℕ) → Reply → Type 0
RightReply d kind home mark None = NoWalk (LeadsTo (question d kind home) mark)
RightReply d kind home mark (Some (cost, runs)) = Cheapest (question d kind home) (LeadsTo (question d kind home) mark) runs cost × NoRepeat runs
