use Rattle.std.proofs.Common.{◌≡◌, ◌+◌, ◌*◌, ◌≤◌, ◌++◌, length, take}
use Rattle.std.specs.List.{flat_map}
use Rattle.player.specs.Lines.{field}
use Rattle.player.proofs.listing.put_route.Given as goal

abbrev pub invariant-loop-run : goal.invariant-loop-run
invariant-loop-run l =
    (l.line.bytes ≡ l.initial.line.bytes ++ flat_map field (take l.run-index l.runs)) × (length l.line.bytes ≤ 34 + 6 * l.run-index)
