use Rattle.std.proofs.Common.{Decides, subst, rules}
use Rattle.track.specs.Map.{EqualMaps}
use Rattle.track.specs.Calls.{map_of}
use Rattle.track.specs.Equal.{same_map_decides}
use Rattle.track.proofs.rig.RigPartialEq.eq.Goals as goal

pub returns-then-eq-clause-decides : goal.returns-then-eq-clause-decides
returns-then-eq-clause-decides g c =
    subst (λ r. Decides r (EqualMaps (map_of c.args.self.now) (map_of c.args.other.now))) (search rules) (same_map_decides (map_of c.args.self.now) (map_of c.args.other.now))

pub returns-else-eq-clause-decides : goal.returns-else-eq-clause-decides
returns-else-eq-clause-decides g c =
    subst (λ r. Decides r (EqualMaps (map_of c.args.self.now) (map_of c.args.other.now))) (search rules) (same_map_decides (map_of c.args.self.now) (map_of c.args.other.now))
