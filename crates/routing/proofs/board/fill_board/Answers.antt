use Rattle.std.proofs.Common.{None, length, rules, arith}
use Rattle.routing.specs.Asked.{asked}
use Rattle.routing.proofs.Loops.{same_everywhere}
use Rattle.routing.proofs.Points.{board_holds}
use Rattle.routing.proofs.board.fill_board.Goals as goal

pub offer_runs-requires-clause-cleared : goal.offer_runs-requires-clause-cleared
offer_runs-requires-clause-cleared g c v = rw (c.fill.ensures.after (λ y same. search rules)) (same_everywhere (length c.args.board.now) v None)

pub returns : goal.returns
returns g c holds = rw c.from.ensures (
    board_holds (asked g.K.CostKind.meaning g.R.HandoverRule.table c.args.task.now) (g.met.K.CostKind.lawful c.args.task.now.kind.now) c.args.table.now c.offer_runs.new.board c.start.result _ holds (omega arith) c.start.ensures (λ v lt. c.offer_runs.ensures v (omega arith)))
