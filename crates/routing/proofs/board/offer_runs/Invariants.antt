use Rattle.std.proofs.Common.{ℕ, ◌<◌, length}
use Rattle.routing.specs.Tables.{place}
use Rattle.routing.specs.Offers.{BestInto}
use Rattle.routing.proofs.board.offer_runs.Given as goal

abbrev pub invariant-loop-i : goal.invariant-loop-i
invariant-loop-i g l =
    (v : ℕ) → v < length l.initial.board → BestInto (g.K.CostKind.meaning l.task.kind.now) l.task.runs.now l.table l.i v (place l.board v)
