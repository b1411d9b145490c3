use Rattle.std.proofs.Common.{◌≡◌, ℕ, ◌<◌, ◌≤◌}
use Rattle.walks.specs.Walks.{run_at}
use Rattle.walks.specs.Moves.{begin_cost}
use Rattle.routing.specs.Tables.{place}
use Rattle.routing.specs.Steps.{begun}
use Rattle.routing.proofs.search.begin_all.Given as goal

abbrev pub invariant-loop-run : goal.invariant-loop-run
invariant-loop-run g l =
    ((r : ℕ) → r < l.run → place l.table r ≡ begun (begin_cost (g.K.CostKind.meaning l.task.kind.now) l.task.home (run_at l.task.runs.now r)))
    × ((r : ℕ) → l.run ≤ r → place l.table r ≡ place l.initial.table r)
