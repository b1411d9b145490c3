use Rattle.std.proofs.Common.{take}
use Rattle.track.specs.Calls.{map_of, LeftBy}
use Rattle.bench_rig.specs.Given.{lays}
use Rattle.bench_rig.proofs.given.lay_all.Given as goal

abbrev pub invariant-loop-run : goal.invariant-loop-run
invariant-loop-run l = LeftBy (lays (take l.run-index l.runs)) (map_of l.rig)
