-- The plain words of whatever a line can say, and that they are read back.
use Rattle.std.specs.Prelude.{◌≡◌, ℕ, ◌^◌, ◌<◌, cond, ◌≢◌, List, [], ◌∷◌, ◌++◌, map, codes, decimal, ◌==◌}
use Rattle.std.specs.List.{flat_map, AllByRecursion}
use Rattle.tape.specs.declared.command.RuleName.{RuleName}
use Rattle.tape.specs.declared.command.RuleName.TheVariants.{Flat, Point, Pair}
use Rattle.tape.specs.Letters.{kind_letter}
use Rattle.track.specs.Map.{Call}
use Rattle.track.specs.Map.Call.{Lay, Strike, Retime, Name, Open, Close, Write, Survey, Route}
use Rattle.walks.specs.Rules.{barred}
use Rattle.reader.specs.declared.rulings.Ruling.{Ruling}
use Rattle.reader.specs.declared.rulings.Ruling.TheVariants.{Choose, SetFlat, SetPoint, SetPair}
use Rattle.reader.specs.Words.{Said, nothing, unreadable, calls, rules, asks, looks, says}
use Rattle.reader.specs.Sheet.{lines, called, sheet_calls}

-- words, each behind a space
abbrev pub spaced : List (List ℕ) → List ℕ
spaced ws = flat_map (λ w. 32 ∷ w) ws

-- a call; no line says the others
abbrev pub call_line : Call → List ℕ
call_line (Lay tail head winch time strain) = codes "lay" ++ spaced (decimal tail ∷ decimal head ∷ decimal winch ∷ decimal time ∷ decimal strain ∷ [])
call_line (Strike run) = codes "strike" ++ spaced (decimal run ∷ [])
call_line (Retime run time) = codes "retime" ++ spaced (decimal run ∷ decimal time ∷ [])
call_line (Name point text) = codes "name" ++ spaced (decimal point ∷ text ∷ [])
call_line Open = []
call_line Close = []
call_line Write = []
call_line Survey = []
call_line Route = []

-- the setting that bars has a word of its own
abbrev pub setting_word : ℕ → List ℕ
setting_word s = cond (s == barred) (codes "barred") (decimal s)

abbrev pub rule_word : RuleName → List ℕ
rule_word Flat = codes "flat"
rule_word Point = codes "point"
rule_word Pair = codes "pair"

abbrev pub rule_line : Ruling → List ℕ
rule_line (Choose rule) = codes "rule" ++ spaced (rule_word rule ∷ [])
rule_line (SetFlat s) = codes "rule flat" ++ spaced (setting_word s ∷ [])
rule_line (SetPoint point s) = codes "rule point" ++ spaced (decimal point ∷ setting_word s ∷ [])
rule_line (SetPair arriving leaving s) = codes "rule pair" ++ spaced (decimal arriving ∷ decimal leaving ∷ setting_word s ∷ [])

abbrev pub line_of : Said → List ℕ
line_of nothing = []
line_of unreadable = []
line_of (calls c) = call_line c
line_of (rules r) = rule_line r
line_of (asks q) = codes "route" ++ spaced ((kind_letter q.kind ∷ []) ∷ decimal q.home ∷ decimal q.mark ∷ [])
line_of (looks l) = codes "survey" ++ spaced ((kind_letter l.kind ∷ []) ∷ decimal l.home ∷ [])

-- the calls and rulings that a line can say: numbers that fit, and a name with no line feed
abbrev pub SayableCall : Call → Type 0
SayableCall (Lay tail head winch time strain) = (tail < 2 ^ 8) × (head < 2 ^ 8) × (winch < 2 ^ 8) × (time < 2 ^ 16) × (strain < 2 ^ 8)
SayableCall (Strike run) = run < 2 ^ 16
SayableCall (Retime run time) = (run < 2 ^ 16) × (time < 2 ^ 16)
SayableCall (Name point text) = (point < 2 ^ 8) × AllByRecursion (λ b. b ≢ 10) text
SayableCall Open = ⊥
SayableCall Close = ⊥
SayableCall Write = ⊥
SayableCall Survey = ⊥
SayableCall Route = ⊥

abbrev pub SayableRuling : Ruling → Type 0
SayableRuling (Choose rule) = Unit {0}
SayableRuling (SetFlat s) = s < 2 ^ 16
SayableRuling (SetPoint point s) = (point < 2 ^ 8) × (s < 2 ^ 16)
SayableRuling (SetPair arriving leaving s) = (arriving < 2 ^ 8) × (leaving < 2 ^ 8) × (s < 2 ^ 16)

abbrev pub Sayable : Said → Type 0
Sayable nothing = Unit {0}
Sayable unreadable = ⊥
Sayable (calls c) = SayableCall c
Sayable (rules r) = SayableRuling r
Sayable (asks q) = (q.home < 2 ^ 8) × (q.mark < 2 ^ 8)
Sayable (looks l) = l.home < 2 ^ 8

abbrev pub LineReadsBack : Type 0
LineReadsBack = (s : Said) → Sayable s → says (line_of s) ≡ s

-- a line that can be read says nothing else
abbrev pub SaysSayable : Type 0
SaysSayable = (line : List ℕ) → AllByRecursion (λ b. b ≢ 10) line → says line ≢ unreadable → Sayable (says line)

-- a sheet, a line for each
abbrev pub sheet_of : List Said → List ℕ
sheet_of ss = flat_map (λ s. line_of s ++ 10 ∷ []) ss

abbrev pub SheetReadsBack : Type 0
SheetReadsBack = (ss : List Said) → AllByRecursion Sayable ss → map says (lines (sheet_of ss)) ≡ ss

abbrev pub CallsReadBack : Type 0
CallsReadBack = (ss : List Said) → AllByRecursion Sayable ss → sheet_calls (sheet_of ss) ≡ flat_map called ss
