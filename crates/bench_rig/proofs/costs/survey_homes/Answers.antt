use Rattle.std.proofs.Common.{arith, length-drop, length-take}
use Rattle.bench_rig.proofs.Rows.{no_rows, row_more}
use Rattle.bench_rig.proofs.costs.survey_homes.Goals as goal

pub loop-home-init : goal.loop-home-init
loop-home-init c = no_rows _ _

pub survey_home-requires : goal.survey_home-requires
survey_home-requires c =
    (omega (arith, c.requires.rows), (omega (arith, c.requires.places, c.loop-home.auto.table), (omega (arith, c.requires.places, c.loop-home.auto.board), simp (length-take, length-drop) (omega (arith, c.requires.rows, c.loop-home.auto.costs)))))

pub loop-home-preserved : goal.loop-home-preserved
loop-home-preserved c =
    rw c.from-at.ensures (row_more _ c.loop-home.home _ c.args.costs.now c.loop-home.costs c.survey_home.new.row (omega arith) (omega (arith, c.requires.rows, c.loop-home.auto.costs))
    (omega (arith, simp (length-take, length-drop) at c.survey_home.auto.row, c.requires.rows, c.loop-home.auto.costs)) c.survey_home.ensures c.loop-home.invariant)
