use Rattle.routing.specs.Asked.{asked}
use Rattle.routing.proofs.Points.{home_place, best_place}
use Rattle.routing.proofs.board.place_of.Goals as goal

pub returns-then-point-task : goal.returns-then-point-task
returns-then-point-task g c holds =
    home_place (asked g.K.CostKind.meaning g.R.HandoverRule.table c.args.task.now) (g.met.K.CostKind.lawful c.args.task.now.kind.now) c.args.table.now c.args.point c.start.result c.if-point-task.true c.start.ensures

pub returns-else-point-task : goal.returns-else-point-task
returns-else-point-task g c holds =
    best_place (asked g.K.CostKind.meaning g.R.HandoverRule.table c.args.task.now) (g.met.K.CostKind.lawful c.args.task.now.kind.now) c.args.table.now holds c.args.point c.if-point-task.false c.best_into.result c.best_into.ensures
