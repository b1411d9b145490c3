use Rattle.player.proofs.Roundtrip.{tapes_play_back}
use Rattle.player.proofs.theorems.tapes_play_back.Goals as goal

pub returns : goal.returns
returns c = tapes_play_back
