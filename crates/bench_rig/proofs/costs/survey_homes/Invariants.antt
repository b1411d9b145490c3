use Rattle.track.specs.Calls.{map_of}
use Rattle.walks.specs.Cheapest.{task}
use Rattle.walks.specs.Costs.{time_kind}
use Rattle.walks.specs.Settings.{pair_rule}
use Rattle.bench_rig.specs.Costs.{RowsLeft}
use Rattle.bench_rig.proofs.costs.survey_homes.Given as goal

abbrev pub invariant-loop-home : goal.invariant-loop-home
invariant-loop-home l = RowsLeft (λ home. task time_kind (pair_rule l.rule.settings) (map_of l.rig).runs home) l.home l.initial.costs l.costs
