use Rattle.std.proofs.Common.{rules}
use Rattle.track.proofs.History.{one_more}
use Rattle.track.proofs.get_in.Rig+GetIn.lay.Goals as goal

pub returns-in_err-number-clause-law : goal.returns-in_err-number-clause-law
returns-in_err-number-clause-law c = one_more _ _ _ (search rules)

pub returns-clause-law : goal.returns-clause-law
returns-clause-law c = one_more _ _ _ (search rules)
