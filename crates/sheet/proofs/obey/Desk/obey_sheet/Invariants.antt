use Rattle.std.proofs.Common.{map, length, vec_items}
use Rattle.sheet.proofs.Sheets.{SheetTo}
use Rattle.sheet.specs.Replies.{desk_in}
use Rattle.sheet.specs.Outcomes.{replied}
use Rattle.sheet.proofs.obey.Desk.obey_sheet.Given as goal

abbrev pub invariant-loop-line : goal.invariant-loop-line
invariant-loop-line l =
    SheetTo (desk_in l.initial.self) l.text (map replied (vec_items l.outcomes)) (desk_in l.self) l.rest

abbrev pub decreases-loop-line : goal.decreases-loop-line
decreases-loop-line l = length l.rest
