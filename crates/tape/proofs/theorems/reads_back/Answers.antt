use Rattle.tape.proofs.Back.{reads_back}
use Rattle.tape.proofs.theorems.reads_back.Goals as goal

pub returns : goal.returns
returns c = reads_back
