use Rattle.std.proofs.Common.{◌≡◌, ℕ, ◌^◌, ◌<◌, List, length}
use Rattle.routing.specs.Chains.{Chain}
use Rattle.routing.proofs.Chains.{Written}
use Rattle.routing.proofs.follow.write_back.Given as goal

abbrev pub invariant-loop-i : goal.invariant-loop-i
invariant-loop-i g l = (l.at < 2 ^ 16) × ((w : List ℕ) → Chain l.table l.end w → length w ≡ length l.initial.walk → Written w l.walk l.i l.at)
