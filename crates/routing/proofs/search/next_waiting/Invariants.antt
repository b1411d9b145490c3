use Rattle.routing.proofs.Loops.{Best}
use Rattle.routing.proofs.search.next_waiting.Given as goal

abbrev pub invariant-loop-run : goal.invariant-loop-run
invariant-loop-run g l = Best (g.K.CostKind.meaning l.kind).at_most l.table l.taken l.run l.lowest
