use Rattle.std.proofs.Common.{ℕ, List, subst}
use Rattle.track.specs.declared.run.Run.{Run}
use Rattle.walks.specs.Cheapest.{task}
use Rattle.walks.specs.Settings.{flat_rule}
use Rattle.walks.specs.Prices.{Priced}
use Rattle.company.specs.Own.{isolated, wear_kind}
use Rattle.company.proofs.worn.wear_without.Goals as goal

-- the setting is 0, and the runs are those of the rig's map
pub returns : goal.returns
returns c =
    subst (λ (m : List Run). Priced (task wear_kind (isolated (flat_rule 0) c.args.winch) m c.args.home) c.args.mark c.args.walk.now c.walk_cost.result) c.runs.ensures.value
    (subst (λ (s : ℕ). Priced (task wear_kind (isolated (flat_rule s) c.args.winch) c.runs.result.now c.args.home) c.args.mark c.args.walk.now c.walk_cost.result) c.new.ensures c.walk_cost.ensures)
