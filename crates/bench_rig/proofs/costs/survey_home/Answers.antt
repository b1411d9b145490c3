use Rattle.std.proofs.Common.{arith}
use Rattle.track.specs.Calls.{map_of}
use Rattle.walks.specs.Settings.{pair_rule}
use Rattle.bench_rig.proofs.Rows.{few_runs, row_of}
use Rattle.bench_rig.proofs.costs.survey_home.Goals as goal

pub returns : goal.returns
returns c =
    row_of (pair_rule c.args.rule.now.settings) (map_of c.args.rig.now) c.args.home c.args.table.now c.args.board.now _ c.survey.new.table c.survey.new.board _
    c.requires.0 (omega (arith, few_runs c.args.rig.now, c.requires.1.0)) c.requires.1.1.0 (omega (arith, c.requires.1.1.0, c.survey.auto.board)) c.survey.ensures.done c.write_costs.ensures
