use Rattle.std.proofs.Common.{◌≡◌, drop}
use Rattle.walks.specs.Cheapest.{task}
use Rattle.walks.proofs.Ways.{net}
use Rattle.walks.proofs.Priced.{trace, traced}
use Rattle.walks.proofs.walk.walk_cost.Given as goal

-- the rest of the list is traced to the same end from here as from the beginning
abbrev pub invariant-loop-next : goal.invariant-loop-next
invariant-loop-next g l =
    let N = net (task (g.K.CostKind.meaning l.kind) (g.R.HandoverRule.table l.rule) l.runs l.home) in
    traced N l.walk ≡ trace N l.last l.cost (drop l.next-index l.rest)
