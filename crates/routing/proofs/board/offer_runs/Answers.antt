use Rattle.std.proofs.Common.{rules, of_calls, None, ◌≡◌, ℕ, ◌<◌, length, get_or, sym, ap, ◌∙◌, subst, arith}
use Rattle.std.proofs.lemmas.List.{get_or_default}
use Rattle.track.specs.declared.run.Run.{Run}
use Rattle.track.specs.Runs.{idle}
use Rattle.walks.specs.Walks.{not_laid}
use Rattle.routing.specs.Tables.{place}
use Rattle.routing.specs.Offers.{BestInto}
use Rattle.routing.proofs.Offers.{board_more}
use Rattle.routing.proofs.board.offer_runs.Goals as goal

pub loop-i-preserved : goal.loop-i-preserved
loop-i-preserved g c v lt =
    let k = g.K.CostKind.meaning c.args.task.now.kind.now in
    let laws = g.met.K.CostKind.lawful c.args.task.now.kind.now in
    let runs = c.args.task.now.runs.now in
    let table = c.args.table.now in
    let board = c.loop-i.board in
    let r = c.loop-i.i in
    let head = c.from-head.result in
    let best = get_or board head c.index-board-head.result in
    let here = c.index-table-i.result in
    let within : head < length board = omega (arith, c.args.task.now.heads r c.loop-i-test.true) in
    board_more k laws runs table board r head best here c.improve.new.place c.map.result within
    (ap (λ (x : Run). x.head) (get_or_default runs r not_laid idle c.loop-i-test.true) ∙ sym c.from-head.ensures)
    (get_or_default board head None c.index-board-head.result within)
    (get_or_default table r None here (omega arith) ∙ sym c.index-table-i.is)
    (search (rules, of_calls)) c.improve.ensures (λ u h. c.loop-i.invariant u (omega arith)) v (omega arith)

pub returns : goal.returns
returns g c v lt =
    let all : c.loop-i.i ≡ length c.args.task.now.runs.now = omega arith in
    subst (λ (n : ℕ). BestInto (g.K.CostKind.meaning c.args.task.now.kind.now) c.args.task.now.runs.now c.args.table.now n v (place c.loop-i.board v)) all (c.loop-i.invariant v lt)
