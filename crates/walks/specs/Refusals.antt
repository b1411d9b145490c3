-- The number of each refusal of a setting call.
use Rattle.std.specs.Prelude.{ℕ, List, codes}
use Rattle.walks.specs.declared.refusal.RuleRefusal.{RuleRefusal}
use Rattle.walks.specs.declared.refusal.RuleRefusal.TheVariants.{NoPoint, NoWinch, SameWinch}

abbrev pub number : RuleRefusal → ℕ
number NoPoint = 1
number NoWinch = 3
number SameWinch = 12

abbrev pub reason : RuleRefusal → List ℕ
reason NoPoint = codes "point above 127"
reason NoWinch = codes "winch above 15"
reason SameWinch = codes "the same winch twice"
