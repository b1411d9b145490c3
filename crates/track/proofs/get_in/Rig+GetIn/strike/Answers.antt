use Rattle.std.proofs.Common.{rules}
use Rattle.track.specs.Runs.{run_ok, idle}
use Rattle.track.proofs.Lists.{test_set_all}
use Rattle.track.proofs.History.{one_more}
use Rattle.track.proofs.get_in.Rig+GetIn.strike.Goals as goal

pub returns-in_err-in_use-clause-law : goal.returns-in_err-in_use-clause-law
returns-in_err-in_use-clause-law c = one_more _ _ _ (search rules)

pub returns-clause-law : goal.returns-clause-law
returns-clause-law c = one_more _ _ _ (search rules)

pub invariant_of-self-2-clause-sound : goal.invariant_of-self-2-clause-sound
invariant_of-self-2-clause-sound c k h =
    test_set_all run_ok c.args.run c.args.self.now.layout.table.runs.items _ idle (search rules) (search rules) c.args.self.now.sound k h
