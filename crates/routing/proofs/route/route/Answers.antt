use borrow.Rule.Slice.PartMut.{Post-is}
use Rattle.std.proofs.Common.{◌-◌, length, ap, arith, length-take}
use Rattle.std.proofs.lemmas.Result.{err_from_is_err_and}
use Rattle.track.specs.Answers.{told}
use Rattle.track.specs.Calls.{map_of}
use Rattle.routing.specs.Refusals.{number}
use Rattle.routing.proofs.Promises.{route_clear, route_promise, route_refused, routed}
use Rattle.routing.proofs.route.route.Goals as goal

pub returns-in_err-check_route : goal.returns-in_err-check_route
returns-in_err-check_route g c =
    let k = g.K.CostKind.meaning c.args.kind.now in
    let t = g.R.HandoverRule.table c.args.rule.now in
    let m = map_of c.args.rig.now in
    let p = err_from_is_err_and c.from_residual.result c.from_residual.ensures.1 in
    rw (p.1, p.2)
    (route_promise k t c.args.home m c.args.mark c.args.table.now c.args.list.now _ _ _ (route_refused k t c.args.home m c.args.table.now c.args.mark c.args.list.now _ c.in_err-check_route.ensures))

pub returns : goal.returns
returns g c =
    let k = g.K.CostKind.meaning c.args.kind.now in
    let t = g.R.HandoverRule.table c.args.rule.now in
    let m = map_of c.args.rig.now in
    let runs = c.runs-runs.result.now in
    let table = c.args.table.now in
    let list = c.args.list.now in
    let checked = c.in_ok-check_route.ensures in
    let clear = route_clear m c.args.home c.args.mark (length table) (length list) checked in
    let same = ap length c.runs-runs.ensures.value in
    route_promise k t c.args.home m c.args.mark table list _ _ _
    (routed k t c.args.home m table runs c.runs-runs.ensures.value c.route_runs.new.table _ c.args.mark list (told number c.route_runs.result) c.route_runs.new.list checked
    (omega (arith, c.route_runs.auto.table, length-take (length runs - 0) table)) (Post-is 0 (length runs) table (omega arith)) c.route_runs.ensures.runs_hold c.route_runs.ensures.routed)
