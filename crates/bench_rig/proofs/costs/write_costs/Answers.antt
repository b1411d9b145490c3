use Rattle.std.proofs.Common.{None, ◌<◌, ◌≢◌, length, ap, ◌∙◌, arith, get_or-set_other, get_or-set_same, below_more}
use Rattle.std.proofs.lemmas.List.{get_or_default}
use Rattle.bench_rig.specs.Costs.{cost_number}
use Rattle.bench_rig.proofs.costs.write_costs.Goals as goal

pub loop-v-preserved : goal.loop-v-preserved
loop-v-preserved c =
    below_more _ _
    (λ k h. let ne : k ≢ c.loop-v.v = omega arith in rw get_or-set_other (c.loop-v.invariant k h))
    (let lt : c.loop-v.v < length c.loop-v.row = omega arith in
    rw get_or-set_same (c.cost_of.ensures ∙ ap cost_number (get_or_default c.args.board.now c.loop-v.v _ None (omega arith))))
