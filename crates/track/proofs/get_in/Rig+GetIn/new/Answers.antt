use Rattle.std.proofs.Common.{[], ap, rules}
use Rattle.std.proofs.lemmas.List.{get_or-replicate}
use Rattle.track.specs.Sizes.{points}
use Rattle.track.specs.Runs.{name_ok, no_name}
use Rattle.track.proofs.History.{none_yet}
use Rattle.track.proofs.get_in.Rig+GetIn.new.Goals as goal

pub invariant_of-result-clause-legible : goal.invariant_of-result-clause-legible
invariant_of-result-clause-legible c = λ p h. ap name_ok (get_or-replicate points p no_name [] h)

pub returns-clause-law : goal.returns-clause-law
returns-clause-law c = none_yet _ (search rules)
