use Rattle.std.proofs.Common.{List, sym, subst, arith}
use Rattle.std.proofs.lemmas.List.{take_all, map_more}
use Rattle.track.specs.Map.{Call}
use Rattle.track.specs.Calls.{map_of, LeftBy}
use Rattle.bench_rig.specs.Given.{lay_of, lays}
use Rattle.bench_rig.specs.declared.given.GivenRun.{GivenRun}
use Rattle.bench_rig.proofs.given.lay_all.Goals as goal

pub loop-run-init : goal.loop-run-init
loop-run-init c = c.new-rig.ensures.law

pub loop-run-preserved : goal.loop-run-preserved
loop-run-preserved c =
    subst (λ (calls : List Call). LeftBy calls (map_of c.lay.new.self)) (sym (map_more lay_of c.args.runs.now c.loop-run.run-index _ c.loop-run-test.true))
    (c.lay.ensures.law _ c.loop-run.invariant)

pub returns : goal.returns
returns c = subst (λ (xs : List GivenRun). LeftBy (lays xs) (map_of c.loop-run.rig)) (take_all _ c.args.runs.now (omega arith)) c.loop-run.invariant
