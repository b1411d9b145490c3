use Rattle.track.proofs.Whole.{calls_stand}
use Rattle.track.proofs.theorems.calls_stand.Goals as goal

pub returns : goal.returns
returns c = calls_stand
