use Rattle.std.proofs.Common.{◌≡◌, ℕ, ◌<◌, ◌≤◌}
use Rattle.routing.specs.Tables.{place}
use Rattle.routing.specs.Steps.{relaxed}
use Rattle.routing.proofs.search.relax.Given as goal

abbrev pub invariant-loop-next : goal.invariant-loop-next
invariant-loop-next g l =
    ((r : ℕ) → r < l.next → place l.table r ≡ relaxed (g.K.CostKind.meaning l.task.kind.now) (g.R.HandoverRule.table l.task.rule.now) l.task.runs.now l.taken l.run l.cost l.initial.table r)
    × ((r : ℕ) → l.next ≤ r → place l.table r ≡ place l.initial.table r)
