-- A sheet in plain words is read back, line by line.
use Rattle.std.proofs.Common.{◌≡◌, ℕ, ◌^◌, ◌<◌, Bool, true, false, ◌≢◌, List, [], ◌∷◌, ◌++◌, map, codes, decimal, sym, refl, ap, ◌∙◌, append_assoc, arith, rules as lemmas}
use Rattle.std.proofs.lemmas.Fmt.{digits_decimal}
use Rattle.std.proofs.ByRecursion.{All-append}
use Rattle.std.proofs.lemmas.Bool.{and_parts, false≢true}
use Rattle.std.specs.List.{flat_map}
use Rattle.std.specs.Char.{is_ascii_digit}
use Rattle.std.specs.Str.{all_ascii_digits}
use Rattle.tape.specs.declared.command.KindName.{KindName}
use Rattle.tape.specs.declared.command.KindName.TheVariants.{Time, Strain, HandOvers}
use Rattle.tape.specs.declared.command.RuleName.TheVariants.{Flat, Point, Pair}
use Rattle.tape.specs.Letters.{kind_letter}
use Rattle.track.specs.Map.{Call}
use Rattle.track.specs.Map.Call.{Lay, Strike, Retime, Name, Open, Close, Write, Survey, Route}
use Rattle.reader.proofs.Feeds.{NoFeed, lines_more}
use Rattle.reader.specs.declared.rulings.Ruling.{Ruling}
use Rattle.reader.specs.declared.rulings.Ruling.TheVariants.{Choose, SetFlat, SetPoint, SetPair}
use Rattle.reader.specs.Words.{Said, nothing, unreadable, calls, rules, asks, looks, says}
use Rattle.reader.specs.Sheet.{lines, called}
use Rattle.reader.specs.Plain.{call_line, rule_line, line_of, SayableCall, SayableRuling, Sayable, sheet_of, SheetReadsBack, CallsReadBack}
use Rattle.reader.proofs.Backs.{own, setting_by, line_reads_back}

digit_no_feed : (d : ℕ) → is_ascii_digit d ≡ true → d ≢ 10
digit_no_feed d h e = let z : is_ascii_digit 10 ≡ true = ap is_ascii_digit (sym e) ∙ h in absurd (false≢true z)

digits_no_feed : (ds : List ℕ) → all_ascii_digits ds ≡ true → NoFeed ds
digits_no_feed [] h = tt
digits_no_feed (d ∷ ds) h = let p = and_parts (is_ascii_digit d) (all_ascii_digits ds) h in (digit_no_feed d p.0, digits_no_feed ds p.1)

decimal_no_feed : (n : ℕ) → n < 2 ^ 64 → NoFeed (decimal n)
decimal_no_feed n wide = digits_no_feed (decimal n) (digits_decimal own n wide)

-- a line is made of these, one behind another
word_no_feed : (w rest : List ℕ) → NoFeed w → NoFeed rest → NoFeed (w ++ rest)
word_no_feed w rest h k = All-append _ w rest h k

number_no_feed : (n : ℕ) (rest : List ℕ) → n < 2 ^ 16 → NoFeed rest → NoFeed (decimal n ++ rest)
number_no_feed n rest fits k = All-append _ (decimal n) rest (decimal_no_feed n (omega arith)) k

setting_no_feed : (bars : Bool) (s : ℕ) (rest : List ℕ) → s < 2 ^ 16 → NoFeed rest → NoFeed (setting_by bars s ++ rest)
setting_no_feed true s rest fits k = All-append _ (codes "barred") rest (search lemmas) k
setting_no_feed false s rest fits k = number_no_feed s rest fits k

letter_no_feed : (kind : KindName) → kind_letter kind ≢ 10
letter_no_feed Time e = omega arith
letter_no_feed Strain e = omega arith
letter_no_feed HandOvers e = omega arith

call_no_feed : (c : Call) → SayableCall c → NoFeed (call_line c)
call_no_feed (Lay tail head winch time strain) h = search (lemmas, number_no_feed)
call_no_feed (Strike run) h = search (lemmas, number_no_feed)
call_no_feed (Retime run time) h = search (lemmas, number_no_feed)
call_no_feed (Name point text) h = search (lemmas, number_no_feed, word_no_feed text)
call_no_feed Open h = absurd h
call_no_feed Close h = absurd h
call_no_feed Write h = absurd h
call_no_feed Survey h = absurd h
call_no_feed Route h = absurd h

ruling_no_feed : (r : Ruling) → SayableRuling r → NoFeed (rule_line r)
ruling_no_feed (Choose Flat) h = search lemmas
ruling_no_feed (Choose Point) h = search lemmas
ruling_no_feed (Choose Pair) h = search lemmas
ruling_no_feed (SetFlat s) h = search (lemmas, setting_no_feed)
ruling_no_feed (SetPoint point s) h = search (lemmas, number_no_feed, setting_no_feed)
ruling_no_feed (SetPair arriving leaving s) h = search (lemmas, number_no_feed, setting_no_feed)

said_no_feed : (s : Said) → Sayable s → NoFeed (line_of s)
said_no_feed nothing h = tt
said_no_feed unreadable h = absurd h
said_no_feed (calls c) h = call_no_feed c h
said_no_feed (rules r) h = ruling_no_feed r h
said_no_feed (asks q) h = search (lemmas, number_no_feed, letter_no_feed)
said_no_feed (looks l) h = search (lemmas, number_no_feed, letter_no_feed)

pub sheet_reads_back : SheetReadsBack
sheet_reads_back [] h = refl
sheet_reads_back (s ∷ ss) h =
    ap (λ z. map says (lines z)) (append_assoc (line_of s) (10 ∷ []) (sheet_of ss))
    ∙ ap (map says) (lines_more (line_of s) (sheet_of ss) (said_no_feed s h.0))
    ∙ ap (λ z. z ∷ map says (lines (sheet_of ss))) (line_reads_back s h.0)
    ∙ ap (λ z. s ∷ z) (sheet_reads_back ss h.1)

said_calls : (ls : List (List ℕ)) → flat_map (λ line. called (says line)) ls ≡ flat_map called (map says ls)
said_calls [] = refl
said_calls (l ∷ ls) = ap (λ z. called (says l) ++ z) (said_calls ls)

pub calls_read_back : CallsReadBack
calls_read_back ss h = said_calls (lines (sheet_of ss)) ∙ ap (flat_map called) (sheet_reads_back ss h)
