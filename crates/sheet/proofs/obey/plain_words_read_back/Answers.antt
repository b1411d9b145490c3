use Rattle.std.proofs.Common.{ap, ◌∙◌}
use Rattle.std.specs.List.{flat_map}
use Rattle.reader.specs.Sheet.{lines}
use Rattle.reader.specs.Plain.{sheet_of}
use Rattle.sheet.proofs.Sheets.{said_calls}
use Rattle.sheet.specs.Sheet.{called}
use Rattle.sheet.proofs.obey.plain_words_read_back.Goals as goal

pub returns : goal.returns
returns c = λ ss h. said_calls (lines (sheet_of ss)) ∙ ap (flat_map called) (c.plain_words_read_back.ensures.sheet ss h)
