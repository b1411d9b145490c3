use Rattle.std.proofs.Common.{rules}
use Rattle.track.proofs.History.{one_more}
use Rattle.track.proofs.get_in.Rig+GetIn.name.Goals as goal

pub returns-then-point-ge-POINTS-clause-law : goal.returns-then-point-ge-POINTS-clause-law
returns-then-point-ge-POINTS-clause-law c = one_more _ _ _ (search rules)

pub returns-in_err-self-clause-law : goal.returns-in_err-self-clause-law
returns-in_err-self-clause-law c = one_more _ _ _ (search rules)

pub returns-clause-law : goal.returns-clause-law
returns-clause-law c = one_more _ _ _ (search rules)
