use Rattle.std.proofs.Common.{◌≡◌, length}
use Rattle.track.specs.Sizes.{most_runs}
use Rattle.routing.specs.Asked.{asked}
use Rattle.walks.proofs.Ways.{net}
use Rattle.routing.specs.Steps.{taken_at}
use Rattle.routing.proofs.Turns.{Good}
use Rattle.routing.proofs.Loops.{waiting}
use Rattle.routing.proofs.search.search.Given as goal

abbrev pub invariant-loop-next : goal.invariant-loop-next
invariant-loop-next g l =
    (length l.taken ≡ most_runs)
    × Good (net (asked g.K.CostKind.meaning g.R.HandoverRule.table l.task)) l.table (taken_at l.taken)

abbrev pub decreases-loop-next : goal.decreases-loop-next
decreases-loop-next g l = waiting l.taken
