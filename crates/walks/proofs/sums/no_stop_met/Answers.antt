use Rattle.walks.proofs.Bound.{no_stop_met, no_stop_after_calls}
use Rattle.walks.proofs.sums.no_stop_met.Goals as goal

pub returns : goal.returns
returns c = record { rig = no_stop_met; calls = no_stop_after_calls }
