use Rattle.std.proofs.Common.{◌≡◌, [], rules}
use Rattle.std.proofs.lemmas.List.{map_push}
use Rattle.sheet.proofs.Sheets.{sheet_more, told_all, left_all, calls_all, goes_on}
use Rattle.sheet.specs.Outcomes.{replied}
use Rattle.sheet.proofs.obey.Desk.obey_sheet.Goals as goal

pub loop-line-preserved : goal.loop-line-preserved
loop-line-preserved c =
    let cut = c.in-Some.ensures in
    sheet_more _ _ _ _ c.loop-line.rest.now c.loop-line.invariant c.in-Some.line.now c.in-Some.more.now _ (replied c.obey_line.result) _
    cut.0 c.obey_line.ensures.told c.obey_line.ensures.after
    (search (rules, map_push))

pub returns : goal.returns
returns c =
    let none : c.loop-line.rest.now ≡ [] = c.in_default.ensures in
    record { told = told_all _ _ _ _ _ c.loop-line.invariant none; after = left_all _ _ _ _ _ c.loop-line.invariant none; law = goes_on _ _ _ (calls_all _ _ _ _ _ c.loop-line.invariant none) }
