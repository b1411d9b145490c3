use Rattle.player.proofs.Copied.{copied}
use Rattle.player.proofs.copy.copy.Goals as goal

pub returns : goal.returns
returns c = copied c.args.rig.now c.args.tape.now c.write.new.out c.in_ok-len.len c.in_ok-len.ensures.done _ _ _ _ _ c.play-played.ensures
