use Rattle.std.proofs.Common.{◌-◌, length}
use Rattle.player.specs.Obeying.{desk_in}
use Rattle.player.proofs.Turns.{Sofar}
use Rattle.player.proofs.play.play.Given as goal

abbrev pub invariant-loop-at : goal.invariant-loop-at
invariant-loop-at l = Sofar l.tape l.initial.listing l.at l.len (desk_in l.desk) l.listing

abbrev pub decreases-loop-at : goal.decreases-loop-at
decreases-loop-at l = length l.tape - l.at
