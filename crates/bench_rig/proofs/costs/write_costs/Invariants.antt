use Rattle.std.proofs.Common.{◌≡◌, ℕ, ◌<◌, get_or}
use Rattle.routing.specs.Tables.{place}
use Rattle.bench_rig.specs.Costs.{cost_number}
use Rattle.bench_rig.proofs.costs.write_costs.Given as goal

abbrev pub invariant-loop-v : goal.invariant-loop-v
invariant-loop-v l = (v : ℕ) → v < l.v → get_or l.row v 0 ≡ cost_number (place l.board v)
