-- The number of each refusal of a survey or a route, and its reason in words.
use Rattle.std.specs.Prelude.{ℕ, List, codes}
use Rattle.routing.specs.declared.refusal.SearchRefusal.{SearchRefusal}
use Rattle.routing.specs.declared.refusal.SearchRefusal.TheVariants.{NoPoint, TableShort, ListShort, BoardShort, NoWay}

abbrev pub number : SearchRefusal → ℕ
number NoPoint = 1
number TableShort = 8
number ListShort = 9
number BoardShort = 10
number NoWay = 11

abbrev pub reason : SearchRefusal → List ℕ
reason NoPoint = codes "point above 127"
reason TableShort = codes "work table too short"
reason ListShort = codes "list too short"
reason BoardShort = codes "board too short"
reason NoWay = codes "no way"
