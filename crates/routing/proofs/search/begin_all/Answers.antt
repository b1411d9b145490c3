use Rattle.std.proofs.Common.{None, ◌<◌, length, set, sym, ap, ◌∙◌, inl, inr, arith}
use Rattle.std.proofs.lemmas.Bool.{cases_lt}
use Rattle.std.proofs.lemmas.List.{get_or_default, get_or_past, get_or-set_same, get_or-set_other}
use Rattle.walks.specs.Walks.{run_at, not_laid}
use Rattle.walks.specs.Moves.{begin_cost}
use Rattle.routing.specs.Tables.{place}
use Rattle.routing.specs.Steps.{begun}
use Rattle.routing.proofs.Loops.{row_more, begun_past}
use Rattle.routing.proofs.search.begin_all.Goals as goal

pub loop-run-preserved : goal.loop-run-preserved
loop-run-preserved g c =
    let k = g.K.CostKind.meaning c.args.task.now.kind.now in
    let runs = c.args.task.now.runs.now in
    let t = c.loop-run.table in
    let i = c.loop-run.run in
    let new = c.begin.result in
    let within : i < length t = omega arith in
    row_more (λ r. begun (begin_cost k c.args.task.now.home (run_at runs r))) (place c.args.table.now) (place t) (place (set t i new)) i
    (get_or-set_same t i new None within ∙ c.begin.ensures ∙ ap (λ x. begun (begin_cost k c.args.task.now.home x)) (get_or_default runs i _ not_laid (omega arith)))
    (λ r ne. get_or-set_other t i r new None ne)
    c.loop-run.invariant

pub returns : goal.returns
returns g c = λ r. elim (cases_lt r (length c.args.task.now.runs.now)) [
  | inl lt ↦ c.loop-run.invariant.0 r (omega arith)
  | inr past ↦ get_or_past c.loop-run.table r None (omega arith) ∙ sym (begun_past (g.K.CostKind.meaning c.args.task.now.kind.now) c.args.task.now.home c.args.task.now.runs.now r past)
]
