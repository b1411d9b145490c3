-- What a question that is put to a desk answers.
use Rattle.std.specs.Prelude.{◌≡◌, ℕ, List, Some, None, Ok, Err, Result}
use Rattle.track.specs.Sizes.{most_runs}
use Rattle.track.specs.Answers.{Answer, gave, refused}
use Rattle.track.specs.Map.{Map, blank}
use Rattle.walks.specs.Rules.{Rule}
use Rattle.routing.specs.declared.refusal.SearchRefusal.{SearchRefusal}
use Rattle.routing.specs.Refusals.{number}
use Rattle.routing.specs.Route.{route_checks}
use Rattle.tape.specs.declared.command.KindName.{KindName}
use Rattle.desk.specs.declared.rules.Rules.{Rules}
use Rattle.desk.specs.declared.ask.Route.{Route}
use Rattle.desk.specs.Desks.{Desk, named_rule, RightReply}

-- a map beside rules of the code
abbrev pub desk_of : Map → Rules → Desk
desk_of m t = record { map = m; flat = t.flat.setting; point = t.point.settings; pair = t.pair.settings; rule = t.in_force }

-- the rule by which these rules judge, whatever the map
abbrev pub rule_in_force : Rules → Rule
rule_in_force t = named_rule (desk_of blank t) t.in_force

-- an answer of the code: the cost and the runs
abbrev pub told_route : Result Route SearchRefusal → Answer (ℕ × List ℕ)
told_route (Ok r) = gave (r.cost, r.runs.items)
told_route (Err e) = refused (number e)

-- the same of an answer whose route is written where it was asked for
abbrev pub told_in : Result (Unit {0}) SearchRefusal → Route → Answer (ℕ × List ℕ)
told_in (Ok x) r = gave (r.cost, r.runs.items)
told_in (Err e) r = refused (number e)

-- a search's answer to a question: a right reply, which is the refusal 11 where there is no way
abbrev pub Answered : Desk → KindName → (home mark : ℕ) → Answer (ℕ × List ℕ) → Type 0
Answered d kind home mark (gave route) = RightReply d kind home mark (Some route)
Answered d kind home mark (refused n) = (n ≡ 11) × RightReply d kind home mark None

-- the checks that need no search, and then the search
abbrev pub Asked : Answer (Unit {0}) → Desk → KindName → (home mark : ℕ) → Answer (ℕ × List ℕ) → Type 0
Asked (refused n) d kind home mark answer = answer ≡ refused n
Asked (gave x) d kind home mark answer = Answered d kind home mark answer

-- What a question promises on a desk. Work table and list are the desk's own, and have room for every run.
abbrev pub AskDone : Desk → KindName → (home mark : ℕ) → Answer (ℕ × List ℕ) → Type 0
AskDone d kind home mark answer = Asked (route_checks d.map home mark most_runs most_runs) d kind home mark answer
