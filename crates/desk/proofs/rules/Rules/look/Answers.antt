use Rattle.std.proofs.Common.{None, replicate, refl, rules}
use Rattle.track.specs.Answers.{told}
use Rattle.track.specs.Calls.{map_of}
use Rattle.routing.specs.Refusals.{number}
use Rattle.desk.specs.Asking.{desk_of}
use Rattle.desk.proofs.Looks.{looked}
use Rattle.desk.proofs.rules.Rules.look.Goals as goal

pub returns : goal.returns
returns c =
    looked (desk_of (map_of c.args.show.now) c.args.self.now) c.args.kind c.args.home (replicate 256 None) c.args.board.now (told number c.survey.result) c.survey.new.table c.survey.new.board refl (search rules) (search rules)
    c.survey.ensures.done
