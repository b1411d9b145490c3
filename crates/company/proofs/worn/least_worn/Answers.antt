use Rattle.std.proofs.Common.{ℕ, subst}
use Rattle.track.specs.Answers.{told}
use Rattle.track.specs.Calls.{map_of}
use Rattle.walks.specs.Settings.{flat_rule}
use Rattle.routing.specs.Refusals.{number}
use Rattle.routing.specs.Route.{RouteDone}
use Rattle.company.specs.Own.{isolated, wear_kind}
use Rattle.company.proofs.worn.least_worn.Goals as goal

-- the setting is 0
pub returns : goal.returns
returns c =
    subst (λ (s : ℕ). RouteDone wear_kind (isolated (flat_rule s) c.args.winch) (map_of c.args.rig.now) c.args.home c.args.mark c.args.table.now c.args.list.now (told number c.route.result) c.route.new.table c.route.new.list)
    c.new.ensures c.route.ensures.done
