-- A line of the listing.
use Rattle.std.specs.Prelude.{ℕ, List, [], ◌∷◌, ◌++◌, length, Some, None, codes, decimal}
use Rattle.std.specs.List.{flat_map}
use Rattle.tape.specs.declared.command.KindName.{KindName}
use Rattle.tape.specs.Letters.{kind_letter}
use Rattle.desk.specs.Desks.{Reply}

-- a number, one space behind what stands before it
abbrev pub field : ℕ → List ℕ
field n = 32 ∷ decimal n

-- kind, home, mark, cost, number of runs and the runs, and the end of the line
abbrev pub route_line : KindName → (home mark cost : ℕ) → (runs : List ℕ) → List ℕ
route_line kind home mark cost runs = kind_letter kind ∷ flat_map field (home ∷ mark ∷ cost ∷ length runs ∷ runs) ++ 0x0A ∷ []

-- kind, home, mark and `no way`
abbrev pub no_way_line : KindName → (home mark : ℕ) → List ℕ
no_way_line kind home mark = kind_letter kind ∷ flat_map field (home ∷ mark ∷ []) ++ codes " no way" ++ 0x0A ∷ []

-- the line that tells a reply
abbrev pub line_of : KindName → (home mark : ℕ) → Reply → List ℕ
line_of kind home mark None = no_way_line kind home mark
line_of kind home mark (Some (cost, runs)) = route_line kind home mark cost runs
