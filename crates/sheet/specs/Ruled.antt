-- What a ruling answers, and what it leaves of the desk.
use Rattle.tape.specs.declared.command.RuleName.{RuleName}
use Rattle.tape.specs.declared.command.RuleName.TheVariants.{Flat, Point, Pair}
use Rattle.track.specs.Answers.{Answer, gave, if_gave}
use Rattle.walks.specs.Settings.{point_answer, point_after, pair_answer, pair_after}
use Rattle.desk.specs.Desks.{Desk, with_flat, with_point, with_pair, with_rule}
use Rattle.reader.specs.declared.rulings.Ruling.{Ruling}
use Rattle.reader.specs.declared.rulings.Ruling.TheVariants.{Choose, SetFlat, SetPoint, SetPair}

-- the rule that a ruling speaks of
abbrev pub rule_of : Ruling → RuleName
rule_of (Choose rule) = rule
rule_of (SetFlat setting) = Flat
rule_of (SetPoint point setting) = Point
rule_of (SetPair arriving leaving setting) = Pair

abbrev pub ruling_answer : Ruling → Answer (Unit {0})
ruling_answer (Choose rule) = gave tt
ruling_answer (SetFlat setting) = gave tt
ruling_answer (SetPoint point setting) = point_answer point
ruling_answer (SetPair arriving leaving setting) = pair_answer arriving leaving

abbrev pub set_by : Desk → Ruling → Desk
set_by d (Choose rule) = d
set_by d (SetFlat setting) = with_flat d setting
set_by d (SetPoint point setting) = with_point d (point_after d.point point setting)
set_by d (SetPair arriving leaving setting) = with_pair d (pair_after d.pair arriving leaving setting)

-- a ruling makes its rule the one for later questions; a refused one leaves the desk as it was
abbrev pub ruled : Desk → Ruling → Desk
ruled d r = if_gave (ruling_answer r) (with_rule (set_by d r) (rule_of r)) d
