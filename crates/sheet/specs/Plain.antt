-- A sheet in plain words makes the calls that its lines say.
use Rattle.std.specs.Prelude.{◌≡◌, List}
use Rattle.std.specs.List.{flat_map, AllByRecursion}
use Rattle.reader.specs.Words.{Said}
use Rattle.reader.specs.Plain.{Sayable, sheet_of}
use Rattle.sheet.specs.Sheet.{called, sheet_calls}

abbrev pub SheetReadsBack : Type 0
SheetReadsBack = (ss : List Said) → AllByRecursion Sayable ss → sheet_calls (sheet_of ss) ≡ flat_map called ss
