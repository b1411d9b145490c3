use Rattle.std.proofs.Common.{None, ◌<◌, length, set, sym, ◌∙◌, inl, inr, arith, rules, of_calls}
use Rattle.std.proofs.lemmas.Bool.{cases_lt}
use Rattle.std.proofs.lemmas.List.{get_or_default, get_or-set_same, get_or-set_other}
use Rattle.routing.specs.Tables.{place}
use Rattle.routing.specs.Steps.{relaxed}
use Rattle.routing.proofs.Loops.{row_more, relaxed_is, relaxed_past}
use Rattle.routing.proofs.search.relax.Goals as goal

pub loop-next-preserved : goal.loop-next-preserved
loop-next-preserved g c =
    let k = g.K.CostKind.meaning c.args.task.now.kind.now in
    let rule = g.R.HandoverRule.table c.args.task.now.rule.now in
    let runs = c.args.task.now.runs.now in
    let d = c.args.taken.now in
    let u = c.args.from.run in
    let cost = c.args.from.cost in
    let old = c.args.table.now in
    let t = c.loop-next.table in
    let i = c.loop-next.next in
    let within : i < length t = omega arith in
    row_more (relaxed k rule runs d u cost old) (place old) (place t) (place (set t i c.improve.new.place)) i
    (get_or-set_same t i _ None within ∙ c.improve.ensures
    ∙ relaxed_is k rule runs d u cost old i c.follow.result c.filter-offer.result _ _ _ (omega arith) (omega arith) c.follow.ensures (search (rules, of_calls)) (get_or_default t i _ None within ∙ c.loop-next.invariant.1 i (omega arith)))
    (λ r ne. get_or-set_other t i r _ None ne)
    c.loop-next.invariant

pub returns : goal.returns
returns g c = λ r. elim (cases_lt r (length c.args.task.now.runs.now)) [
  | inl lt ↦ c.loop-next.invariant.0 r (omega arith)
  | inr past ↦ c.loop-next.invariant.1 r (omega arith) ∙ sym (relaxed_past (g.K.CostKind.meaning c.args.task.now.kind.now) (g.R.HandoverRule.table c.args.task.now.rule.now) c.args.task.now.runs.now c.args.taken.now c.args.from.run c.args.from.cost c.args.table.now r past)
]
