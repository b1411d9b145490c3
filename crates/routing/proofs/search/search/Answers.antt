use Rattle.std.proofs.Common.{false, ◌≡◌, length, refl, ◌∙◌, arith}
use Rattle.std.proofs.lemmas.List.{length-set}
use Rattle.track.specs.Sizes.{most_runs}
use Rattle.routing.specs.Asked.{asked}
use Rattle.walks.proofs.Ways.{net, net_laws}
use Rattle.routing.specs.Steps.{taken_at}
use Rattle.routing.proofs.Turns.{good_begun, good_holds}
use Rattle.routing.proofs.Loops.{label_in, lowest_in, waiting_falls, same_everywhere, turn_more}
use Rattle.routing.proofs.search.search.Goals as goal

pub loop-next-init : goal.loop-next-init
loop-next-init g c =
    let k = asked g.K.CostKind.meaning g.R.HandoverRule.table c.args.task.now in
    (refl, good_begun (net k) (net_laws k (g.met.K.CostKind.lawful c.args.task.now.kind.now)) c.begin_all.new.table _ (λ r. same_everywhere most_runs r false) c.begin_all.ensures)

pub bounds-taken-next : goal.bounds-taken-next
bounds-taken-next g c =
    let here = lowest_in c.in-Some.ensures in
    omega (arith, c.loop-next.auto.table, c.begin_all.auto.table, c.requires, c.args.task.now.few)

pub relax-requires : goal.relax-requires
relax-requires g c =
    let size : length c.loop-next.table ≡ length c.args.task.now.runs.now = c.loop-next.auto.table ∙ c.begin_all.auto.table ∙ c.requires in
    let here = lowest_in c.in-Some.ensures in
    (size, rw length-set (omega (arith, c.loop-next.invariant.0, c.args.task.now.few)), omega (arith, here, size))

pub loop-next-smaller : goal.loop-next-smaller
loop-next-smaller g c =
    let here = lowest_in c.in-Some.ensures in
    waiting_falls c.loop-next.taken c.in-Some.next.run (omega (arith, here, c.loop-next.auto.table, c.begin_all.auto.table, c.loop-next.invariant.0, c.requires, c.args.task.now.few)) c.in-Some.ensures.waits

pub loop-next-preserved : goal.loop-next-preserved
loop-next-preserved g c =
    let k = asked g.K.CostKind.meaning g.R.HandoverRule.table c.args.task.now in
    let here = lowest_in c.in-Some.ensures in (
      rw length-set c.loop-next.invariant.0,
      turn_more k (g.met.K.CostKind.lawful c.args.task.now.kind.now) c.loop-next.table c.relax.new.table c.loop-next.taken c.in-Some.next.run c.in-Some.next.cost
          (omega (arith, here, c.loop-next.auto.table, c.begin_all.auto.table, c.loop-next.invariant.0, c.requires, c.args.task.now.few)) c.in-Some.ensures c.relax.ensures c.loop-next.invariant.1,
    )

pub returns : goal.returns
returns g c =
    let k = asked g.K.CostKind.meaning g.R.HandoverRule.table c.args.task.now in
    good_holds k (g.met.K.CostKind.lawful c.args.task.now.kind.now) c.loop-next.table (taken_at c.loop-next.taken) c.loop-next.invariant.1
    (λ r l f is. c.in_default.ensures r l (label_in c.loop-next.table r l is) f is)
