use Rattle.std.proofs.Common.{length, take, ap, arith, length-append, length-take, length-drop}
use Rattle.tape.specs.Tape.{numbered}
use Rattle.tape.proofs.Numbered.{numbered_more, room}
use Rattle.tape.proofs.Puts.{put_next}
use Rattle.tape.proofs.write.put_all.Goals as goal

pub put-len-requires : goal.put-len-requires
put-len-requires g c =
    let fits = room g.T.Item.bytes c.args.items.now c.loop-number.number c.index-items-number.result (omega arith) c.index-items-number.is in
    simp (length-take, length-drop) (omega arith)

pub loop-number-preserved : goal.loop-number-preserved
loop-number-preserved g c =
    let i = c.loop-number.number in
    let x = c.index-items-number.result in
    let more = numbered_more g.T.Item.bytes c.args.items.now i x (omega arith) c.index-items-number.is in
    let len = simp length-append at (ap length more) in
    let left =
    put_next c.args.out.now c.loop-number.out (numbered g.T.Item.bytes 0 (take i c.args.items.now)) (g.T.Item.bytes i x) c.put-len.new.out c.loop-number.len
    c.loop-number.invariant.1 c.loop-number.invariant.0 c.put-len.ensures.left in
    (omega arith, cc)
