use Rattle.std.proofs.Common.{◌≡◌, length, take}
use Rattle.tape.specs.Tape.{numbered}
use Rattle.tape.specs.Buffers.{put_front}
use Rattle.tape.proofs.write.put_all.Given as goal

abbrev pub invariant-loop-number : goal.invariant-loop-number
invariant-loop-number g l =
    (l.len ≡ length (numbered g.T.Item.bytes 0 (take l.number l.items)))
    × (l.out ≡ put_front l.initial.out (numbered g.T.Item.bytes 0 (take l.number l.items)))
