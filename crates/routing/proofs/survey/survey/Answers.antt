use borrow.Rule.Slice.PartMut.{Post-is}
use Rattle.std.proofs.Common.{◌-◌, length, ap, arith, length-take}
use Rattle.std.proofs.lemmas.Result.{err_from_is_err_and}
use Rattle.track.specs.Sizes.{points}
use Rattle.track.specs.Calls.{map_of}
use Rattle.routing.proofs.Promises.{survey_clear, survey_promise, survey_refused, surveyed}
use Rattle.routing.proofs.survey.survey.Goals as goal

pub returns-in_err-check_survey : goal.returns-in_err-check_survey
returns-in_err-check_survey g c =
    let k = g.K.CostKind.meaning c.args.kind.now in
    let t = g.R.HandoverRule.table c.args.rule.now in
    let m = map_of c.args.rig.now in
    let p = err_from_is_err_and c.from_residual.result c.from_residual.ensures.1 in
    rw (p.1, p.2)
    (survey_promise k t c.args.home m c.args.table.now c.args.board.now _ _ _ (survey_refused k t c.args.home m c.args.table.now c.args.board.now _ c.in_err-check_survey.ensures))

pub returns : goal.returns
returns g c =
    let k = g.K.CostKind.meaning c.args.kind.now in
    let t = g.R.HandoverRule.table c.args.rule.now in
    let m = map_of c.args.rig.now in
    let runs = c.runs-runs.result.now in
    let table = c.args.table.now in
    let board = c.args.board.now in
    let answer = c.in_ok-check_survey.ensures in
    let clear = survey_clear m c.args.home (length table) (length board) answer in
    let same = ap length c.runs-runs.ensures.value in
    survey_promise k t c.args.home m table board _ _ _
    (surveyed k t c.args.home m table runs c.runs-runs.ensures.value c.survey_runs.new.table _ board c.survey_runs.new.board _ answer
    (omega (arith, c.survey_runs.auto.table, length-take (length runs - 0) table)) (Post-is 0 (length runs) table (omega arith)) c.survey_runs.ensures.runs_hold
    (omega (arith, c.survey_runs.auto.board, length-take points board)) (Post-is 0 points board (omega arith)) c.survey_runs.ensures.points_hold)
