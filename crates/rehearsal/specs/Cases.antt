-- The worked cases: a table, and what each row says of the walks over its map.
use Rattle.std.specs.Prelude.{◌≡◌, ℕ, List, [], ◌∷◌, ◌++◌, replicate, Some, None, Option}
use Rattle.track.specs.Sizes.{points}
use Rattle.track.specs.Map.{Call}
use Rattle.track.specs.Map.Call.{Lay, Strike}
use Rattle.track.specs.Calls.{map_after}
use Rattle.walks.specs.Kinds.{Kind}
use Rattle.walks.specs.Rules.{Rule, barred}
use Rattle.walks.specs.Walks.{NoRepeat}
use Rattle.walks.specs.Cheapest.{Task, task, price, LeadsTo, NoWalk, Cheapest}
use Rattle.walks.specs.Costs.{time_kind, strain_kind, handover_kind}
use Rattle.walks.specs.Settings.{flat_rule, point_rule, point_after}

-- the kinds, by their letters
pub data Letter : Type 0 where
  t : Letter
  s : Letter
  h : Letter

abbrev pub kind_of : Letter → Kind ℕ
kind_of t = time_kind
kind_of s = strain_kind
kind_of h = handover_kind

pub record Case : Type 0 where
  pub kind : Letter
  pub rule : Rule
  -- the calls that made the map
  pub calls : List Call
  pub home : ℕ
  pub mark : ℕ
  -- the least cost and a walk that has it, or no way
  pub answer : Option (ℕ × List ℕ)
  -- other walks to the mark, with their costs
  pub others : List (ℕ × List ℕ)

-- what is asked, on the map worked out from the calls
abbrev pub task_of : Case → Task ℕ
task_of c = task (kind_of c.kind) c.rule (map_after c.calls).runs c.home

-- a legal walk to the mark of this cost, that repeats no run
abbrev pub Costs : Task ℕ → (mark : ℕ) → ℕ × List ℕ → Type 0
Costs k mark x = LeadsTo k mark x.1 × (price k x.1 ≡ x.0) × NoRepeat x.1

abbrev pub Answered : Task ℕ → (mark : ℕ) → Option (ℕ × List ℕ) → Type 0
Answered k mark None = NoWalk (LeadsTo k mark)
Answered k mark (Some x) = Cheapest k (LeadsTo k mark) x.1 x.0 × NoRepeat x.1

abbrev pub EachCosts : Task ℕ → (mark : ℕ) → List (ℕ × List ℕ) → Type 0
EachCosts k mark [] = Unit {0}
EachCosts k mark (x ∷ xs) = Costs k mark x × EachCosts k mark xs

abbrev pub Holds : Case → Type 0
Holds c = Answered (task_of c) c.mark c.answer × EachCosts (task_of c) c.mark c.others

abbrev pub EachHolds : List Case → Type 0
EachHolds [] = Unit {0}
EachHolds (c ∷ cs) = Holds c × EachHolds cs

-- the map W, and the same with run 1 struck
abbrev pub W : List Call
W = Lay 0 1 0 30 40 ∷ Lay 0 2 1 20 70 ∷ Lay 2 1 1 20 20 ∷ Lay 1 3 1 50 60 ∷ []

abbrev pub WStruck : List Call
WStruck = W ++ Strike 1 ∷ []

-- a map with a detour from point 1 by point 4 and back; point 1 is barred, point 4 has the penalty 3
abbrev pub detour : List Call
detour = Lay 0 1 0 10 10 ∷ Lay 1 3 1 10 10 ∷ Lay 1 4 0 5 10 ∷ Lay 4 1 1 5 10 ∷ []

abbrev pub detour_settings : List ℕ
detour_settings = point_after (point_after (replicate points 0) 1 barred) 4 3

-- the walks of which the remarks speak
abbrev pub round : List ℕ
round = 1 ∷ 2 ∷ 3 ∷ []

abbrev pub straight : List ℕ
straight = 0 ∷ []

abbrev pub there_and_back : List ℕ
there_and_back = 0 ∷ 2 ∷ 3 ∷ 1 ∷ []

abbrev pub case : Letter → Rule → List Call → (home mark : ℕ) → Option (ℕ × List ℕ) → List (ℕ × List ℕ) → Case
case k rule calls home mark answer others =
    record { kind = k; rule = rule; calls = calls; home = home; mark = mark; answer = answer; others = others }

abbrev pub cases : List Case
cases =
    case t (flat_rule 25) W 0 3 (Some (90, round)) []
    ∷ case t (flat_rule 25) W 0 1 (Some (30, straight)) []
    ∷ case t (flat_rule 9) W 0 3 (Some (89, 0 ∷ 3 ∷ [])) []
    ∷ case t (flat_rule 10) W 0 3 (Some (90, round)) ((90, 0 ∷ 3 ∷ []) ∷ [])
    ∷ case s (flat_rule 25) W 0 3 (Some (60, 0 ∷ 3 ∷ [])) []
    ∷ case h (flat_rule 25) W 0 3 (Some (90, round)) ((4294967401, 0 ∷ 3 ∷ []) ∷ [])
    ∷ case t (flat_rule 25) W 3 0 None []
    ∷ case t (flat_rule 25) W 2 2 (Some (0, [])) []
    ∷ case t (flat_rule barred) WStruck 0 3 None []
    ∷ case t (flat_rule barred) WStruck 0 1 (Some (30, straight)) []
    ∷ case t (point_rule detour_settings) detour 0 3 (Some (33, there_and_back)) []
    ∷ case t (flat_rule 0) [] 0 0 (Some (0, [])) []
    ∷ case t (flat_rule 0) [] 0 1 None []
    ∷ []
