use Rattle.std.proofs.Common.{◌≡◌, ap, ◌∙◌}
use Rattle.track.specs.Calls.{afters, map_of}
use Rattle.desk.specs.Desks.{Desk}
use Rattle.reader.specs.Words.{says, asks}
use Rattle.sheet.proofs.Sheets.{goes_on}
use Rattle.sheet.specs.Sheet.{called}
use Rattle.sheet.proofs.obey.Desk.obey_line.Goals as goal

pub returns-in-Some-Route-clause-law : goal.returns-in-Some-Route-clause-law
returns-in-Some-Route-clause-law c =
    let asked : asks c.in-Some-Route.question ≡ says c.args.line.now = rw c.in-Some-Route.field-0-is at c.in-Some-Route.ensures in
    goes_on (map_of c.args.self.now.rig) _ (called (says c.args.line.now))
    (ap (λ (d : Desk). d.map) c.answer.ensures.same ∙ ap (λ s. afters (map_of c.args.self.now.rig) (called s)) asked)
