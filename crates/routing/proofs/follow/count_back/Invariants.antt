use Rattle.std.proofs.Common.{ℕ, ◌-◌, ◌^◌, ◌<◌, List, length}
use Rattle.routing.specs.Chains.{Chain}
use Rattle.routing.proofs.Chains.{Stands}
use Rattle.routing.proofs.follow.count_back.Given as goal

abbrev pub invariant-loop-run : goal.invariant-loop-run
invariant-loop-run g l = (0 < l.count) × (l.at < 2 ^ 16) × ((w : List ℕ) → Chain l.table l.end w → Stands w l.at l.count)

abbrev pub decreases-loop-run : goal.decreases-loop-run
decreases-loop-run g l = length l.table - l.count
