use Rattle.std.proofs.Common.{◌≡◌, ◌+◌, ◌-◌, [], length, get_or, take, drop, None, Option, sym, ap, ◌∙◌, rules}
use Rattle.std.proofs.lemmas.List.{at_drop_all, nil_from_length}
use Rattle.track.specs.declared.run.Run.{Run}
use Rattle.walks.specs.Moves.{begin_cost}
use Rattle.walks.specs.Cheapest.{task}
use Rattle.walks.proofs.Ways.{net}
use Rattle.walks.proofs.Priced.{then, trace, trace_more, priced_there, priced_elsewhere, priced_nowhere}
use Rattle.walks.proofs.walk.walk_cost.Goals as goal

pub returns-then-home-mark : goal.returns-then-home-mark
returns-then-home-mark g c =
    let e : c.args.walk.now ≡ [] = nil_from_length c.args.walk.now (search rules) in
    rw e ((c.if-home-mark.true, tt), sym c.start.ensures)

pub returns-else-home-mark : goal.returns-else-home-mark
returns-else-home-mark g c =
    let e : c.args.walk.now ≡ [] = nil_from_length c.args.walk.now (search rules) in
    rw e (λ leads. c.if-home-mark.false leads.0)

pub loop-next-init : goal.loop-next-init
loop-next-init g c =
    let k = task (g.K.CostKind.meaning c.args.kind.now) (g.R.HandoverRule.table c.args.rule.now) c.args.runs.now c.args.home in
    let rest = take (length c.args.walk.now - 1) (drop 1 c.args.walk.now) in
    ap (λ (o : Option g.row.K-Cost.Denot). then o (λ b. trace (net k) (get_or c.args.walk.now 0 0) b rest))
    (ap (begin_cost k.kind k.home) (sym c.run_at.ensures) ∙ sym c.begin.ensures ∙ c.in_ok-cost.was)

pub loop-next-preserved : goal.loop-next-preserved
loop-next-preserved g c =
    let k = task (g.K.CostKind.meaning c.args.kind.now) (g.R.HandoverRule.table c.args.rule.now) c.args.runs.now c.args.home in
    let rest = take (length c.args.walk.now - 1) (drop 1 c.args.walk.now) in
    let i = c.loop-next.next-index in
    c.loop-next.invariant
    ∙ trace_more k rest i c.loop-next.last c.loop-next.cost _ _ _ c.loop-next-test.true c.run_at-in-loop-next.ensures c.run_at-in-loop-next-2.ensures c.follow.ensures
    ∙ ap (λ (o : Option g.row.K-Cost.Denot). then o (λ b. trace (net k) (get_or rest i 0) b (drop (i + 1) rest))) c.in_ok-cost-2.was

pub returns-in_err-cost-2 : goal.returns-in_err-cost-2
returns-in_err-cost-2 g c =
    let k = task (g.K.CostKind.meaning c.args.kind.now) (g.R.HandoverRule.table c.args.rule.now) c.args.runs.now c.args.home in
    let rest = take (length c.args.walk.now - 1) (drop 1 c.args.walk.now) in
    let i = c.loop-next.next-index in
    let stops : c.follow.result ≡ None = search rules in
    let end =
    c.loop-next.invariant
    ∙ trace_more k rest i c.loop-next.last c.loop-next.cost _ _ _ c.loop-next-test.true c.run_at-in-loop-next.ensures c.run_at-in-loop-next-2.ensures c.follow.ensures
    ∙ ap (λ (o : Option g.row.K-Cost.Denot). then o (λ b. trace (net k) (get_or rest i 0) b (drop (i + 1) rest))) stops
    in
    rw c.from_residual-in_err-cost-2.ensures (priced_nowhere k c.args.mark c.args.walk.now (search rules) end)

pub returns-then-run_at-mark : goal.returns-then-run_at-mark
returns-then-run_at-mark g c =
    let k = task (g.K.CostKind.meaning c.args.kind.now) (g.R.HandoverRule.table c.args.rule.now) c.args.runs.now c.args.home in
    let rest = take (length c.args.walk.now - 1) (drop 1 c.args.walk.now) in
    let end = c.loop-next.invariant ∙ at_drop_all (trace (net k) c.loop-next.last c.loop-next.cost) rest c.loop-next.next-index c.loop-next-test.false in
    priced_there k c.args.mark c.args.walk.now (search rules) c.loop-next.last c.loop-next.cost end (ap (λ (x : Run). x.head) (sym c.run_at-2.ensures) ∙ c.if-run_at-mark.true)

pub returns-else-run_at-mark : goal.returns-else-run_at-mark
returns-else-run_at-mark g c =
    let k = task (g.K.CostKind.meaning c.args.kind.now) (g.R.HandoverRule.table c.args.rule.now) c.args.runs.now c.args.home in
    let rest = take (length c.args.walk.now - 1) (drop 1 c.args.walk.now) in
    let end = c.loop-next.invariant ∙ at_drop_all (trace (net k) c.loop-next.last c.loop-next.cost) rest c.loop-next.next-index c.loop-next-test.false in
    priced_elsewhere k c.args.mark c.args.walk.now (search rules) c.loop-next.last c.loop-next.cost end (λ at. c.if-run_at-mark.false (ap (λ (x : Run). x.head) c.run_at-2.ensures ∙ at))
