use Rattle.std.proofs.Common.{rules, of_calls, None, ◌≡◌, ℕ, ◌+◌, length, sym, ap, ◌∙◌, subst, arith}
use Rattle.std.proofs.lemmas.List.{get_or_default}
use Rattle.track.specs.declared.run.Run.{Run}
use Rattle.track.specs.Runs.{idle}
use Rattle.walks.specs.Walks.{not_laid}
use Rattle.routing.specs.Offers.{BestInto}
use Rattle.routing.proofs.Offers.{best_past, best_more}
use Rattle.routing.proofs.board.best_into.Goals as goal
use Rattle.routing.proofs.board.best_into.Goals.{then-run-point, else-run-point}

pub loop-i-preserved : goal.loop-i-preserved
loop-i-preserved g c =
    let k = g.K.CostKind.meaning c.args.task.now.kind.now in
    let laws = g.met.K.CostKind.lawful c.args.task.now.kind.now in
    let runs = c.args.task.now.runs.now in
    let table = c.args.table.now in
    let r = c.loop-i.i in
    let head = ap (λ (x : Run). x.head) (get_or_default runs r not_laid idle c.loop-i-test.true) in
    elim c.if-run-point.branch [
      | then-run-point w ↦ (let here = w.index-table-i.result in
          best_more k laws runs table c.args.point r c.loop-i.best here c.if-run-point.best w.map.result (head ∙ w.if-run-point.true)
          (get_or_default table r None here (omega arith) ∙ sym w.index-table-i.is) (search (rules, of_calls)) (w.best-is ∙ w.improve.ensures) c.loop-i.invariant)
      | else-run-point w ↦ subst (BestInto k runs table (r + 1) c.args.point) (sym w.best-is) (best_past k laws runs table c.args.point r c.loop-i.best (λ e. w.if-run-point.false (sym head ∙ e)) c.loop-i.invariant)
    ]

pub returns : goal.returns
returns g c =
    let all : c.loop-i.i ≡ length c.args.task.now.runs.now = omega arith in
    subst (λ (n : ℕ). BestInto (g.K.CostKind.meaning c.args.task.now.kind.now) c.args.task.now.runs.now c.args.table.now n c.args.point c.loop-i.best) all c.loop-i.invariant
