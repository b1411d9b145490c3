use Rattle.std.proofs.Common.{◌≡◌, length}
use Rattle.reader.specs.Scan.{trimmed}
use Rattle.reader.proofs.scan.trim.Given as goal

abbrev pub invariant-loop-rest : goal.invariant-loop-rest
invariant-loop-rest l = trimmed l.rest ≡ trimmed l.bytes

abbrev pub decreases-loop-rest : goal.decreases-loop-rest
decreases-loop-rest l = length l.rest
