use Rattle.routing.specs.Offers.{BestInto}
use Rattle.routing.proofs.board.best_into.Given as goal

abbrev pub invariant-loop-i : goal.invariant-loop-i
invariant-loop-i g l = BestInto (g.K.CostKind.meaning l.task.kind.now) l.task.runs.now l.table l.i l.point l.best
