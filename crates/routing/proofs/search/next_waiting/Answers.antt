use Rattle.std.proofs.Common.{None, ◌≡◌, ◌+◌, length, sym, ap, ◌∙◌, subst, rules, of_calls, arith}
use Rattle.std.proofs.lemmas.Bool.{both_ways}
use Rattle.std.proofs.lemmas.List.{get_or_default}
use Rattle.walks.proofs.Ways.{none_some}
use Rattle.routing.specs.Steps.{cost_in, label, taken_at}
use Rattle.routing.proofs.Loops.{Best, best_skip, best_keep, best_take}
use Rattle.routing.proofs.search.next_waiting.Goals as goal
use Rattle.routing.proofs.search.next_waiting.Goals.{then-not-taken-run+in-Some+then-goes_first, then-not-taken-run+in-Some+else-goes_first, then-not-taken-run+in_default, else-not-taken-run}

pub loop-run-preserved : goal.loop-run-preserved
loop-run-preserved g c =
    let k = g.K.CostKind.meaning c.args.kind.now in
    let laws = g.met.K.CostKind.lawful c.args.kind.now in
    let t = c.args.table.now in
    let d = c.args.taken.now in
    let i = c.loop-run.run in
    let found = c.loop-run.lowest in
    let here : label t i ≡ cost_in c.index-table-run.result = ap cost_in (get_or_default t i None c.index-table-run.result c.loop-run-test.true ∙ sym c.index-table-run.is) in
    elim c.if-not-taken-run.branch [
      | then-not-taken-run+in-Some+then-goes_first w ↦ subst (Best k.at_most t d (i + 1)) (sym w.lowest-is)
          (best_take laws t d i found w.map.result w.in-Some.place.cost (search (rules, of_calls)) (sym w.if-goes_first.ensures) w.if-not-taken-run.true (here ∙ ap cost_in w.in-Some.is) c.loop-run.invariant)
      | then-not-taken-run+in-Some+else-goes_first w ↦ subst (Best k.at_most t d (i + 1)) (sym w.lowest-is)
          (best_keep laws t d i found w.map.result w.in-Some.place.cost (search (rules, of_calls)) (sym w.if-goes_first.ensures) (here ∙ ap cost_in w.in-Some.is) c.loop-run.invariant)
      | then-not-taken-run+in_default w ↦ subst (Best k.at_most t d (i + 1)) (sym w.lowest-is)
          (best_skip laws t d i found (λ x f is. none_some (label t i) x (here ∙ ap cost_in w.in_default.is) is) c.loop-run.invariant)
      | else-not-taken-run w ↦ subst (Best k.at_most t d (i + 1)) (sym w.lowest-is)
          (best_skip laws t d i found (λ x f is. both_ways (taken_at d i) f w.if-not-taken-run.false) c.loop-run.invariant)
    ]

pub returns : goal.returns
returns g c =
    let all : c.loop-run.run ≡ length c.args.table.now = omega arith in
    subst (λ n. Best (g.K.CostKind.meaning c.args.kind.now).at_most c.args.table.now c.args.taken.now n c.loop-run.lowest) all c.loop-run.invariant
