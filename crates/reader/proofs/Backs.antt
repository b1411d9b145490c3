-- A line in plain words is read back.
use Rattle.std.proofs.Common.{◌≡◌, ℕ, ◌^◌, ◌<◌, ◌≤◌, Bool, true, false, cond, eqb, ◌≢◌, List, [], ◌∷◌, ◌++◌, length, Some, codes, decimal, Option, sym, refl, ap, ◌∙◌, append-nil, arith, rules as lemmas}
use Rattle.std.proofs.lemmas.Fmt.{digits_decimal, digits_value-decimal, decimal_nonempty}
use Rattle.std.proofs.lemmas.List.{length-append}
use Rattle.std.proofs.lemmas.Str.Parse.{IsNumeralModel, numerals_by_fold, tells_all_ascii_digits}
use Rattle.std.proofs.lemmas.Bool.{and_parts, eqb-true, eqb-false, ne_eqb}
use Rattle.std.proofs.lemmas.Bool.Decides.{nat_tests}
use Rattle.std.specs.Char.{is_ascii_digit}
use Rattle.std.specs.Str.{all_ascii_digits, bytes_eq}
use Rattle.tape.specs.declared.command.KindName.{KindName}
use Rattle.tape.specs.declared.command.KindName.TheVariants.{Time, Strain, HandOvers}
use Rattle.tape.specs.declared.command.RuleName.{RuleName}
use Rattle.tape.specs.declared.command.RuleName.TheVariants.{Flat, Point, Pair}
use Rattle.tape.specs.Letters.{kind_letter}
use Rattle.track.specs.Map.{Call}
use Rattle.track.specs.Map.Call.{Lay, Strike, Retime, Name, Open, Close, Write, Survey, Route}
use Rattle.walks.specs.Rules.{barred}
use Rattle.reader.specs.declared.rulings.Ruling.{Ruling}
use Rattle.reader.specs.declared.rulings.Ruling.TheVariants.{Choose, SetFlat, SetPoint, SetPair}
use Rattle.reader.specs.Scan.{◌>>=◌, trimmed, word, behind, value, number, next, over}
use Rattle.reader.specs.Rulings.{setting, flat_words, point_words, pair_words, set_words}
use Rattle.reader.specs.Questions.{asked, route_words, looked, survey_words}
use Rattle.reader.specs.Words.{nothing, unreadable, calls, rules, asks, looks, says, said_as}
use Rattle.reader.specs.Plain.{spaced, call_line, setting_word, rule_line, SayableCall, SayableRuling, LineReadsBack}

pub own : IsNumeralModel (λ ds. all_ascii_digits ds ≡ true) (value 0)
own = numerals_by_fold _ tells_all_ascii_digits value (search lemmas)

-- digits are a word
digit_no_space : (d : ℕ) → is_ascii_digit d ≡ true → eqb d 32 ≡ false
digit_no_space d h = grind (arith, nat_tests)

word_digits : (ds rest : List ℕ) → all_ascii_digits ds ≡ true → word (ds ++ rest) ≡ ds ++ word rest
word_digits [] rest h = refl
word_digits (d ∷ ds) rest h =
    let p = and_parts (is_ascii_digit d) (all_ascii_digits ds) h in
    ap (λ t. cond t [] (d ∷ word (ds ++ rest))) (digit_no_space d p.0) ∙ ap (λ z. d ∷ z) (word_digits ds rest p.1)

behind_digits : (ds rest : List ℕ) → all_ascii_digits ds ≡ true → behind (ds ++ rest) ≡ behind rest
behind_digits [] rest h = refl
behind_digits (d ∷ ds) rest h =
    let p = and_parts (is_ascii_digit d) (all_ascii_digits ds) h in
    ap (λ t. cond t (d ∷ (ds ++ rest)) (behind (ds ++ rest))) (digit_no_space d p.0) ∙ behind_digits ds rest p.1

trimmed_digits : (ds rest : List ℕ) → all_ascii_digits ds ≡ true → 0 < length ds → trimmed (ds ++ rest) ≡ ds ++ rest
trimmed_digits [] rest h some = absurd (omega arith)
trimmed_digits (d ∷ ds) rest h some =
    let p = and_parts (is_ascii_digit d) (all_ascii_digits ds) h in
    ap (λ t. cond t (trimmed (ds ++ rest)) (d ∷ (ds ++ rest))) (digit_no_space d p.0)

number_reads : (most : ℕ) (ds : List ℕ) → 0 < length ds → all_ascii_digits ds ≡ true → value 0 ds ≤ most → number most ds ≡ Some (value 0 ds)
number_reads most [] some h fits = absurd (omega arith)
number_reads most (d ∷ ds) some h fits = grind (arith, nat_tests)

went_on : {X : Type 0} (o : Option ℕ) (n : ℕ) (b rest : List ℕ) (f : ℕ × List ℕ → Option X) → o ≡ Some n → b ≡ rest → ((o >>= (λ k. Some (k, b))) >>= f) ≡ f (n, rest)
went_on o n b rest f e d = ap (λ p. (p >>= (λ k. Some (k, b))) >>= f) e ∙ ap (λ z. f (n, z)) d

-- a number that is written is a word
next_word : (n : ℕ) (rest : List ℕ) → n < 2 ^ 64 → word rest ≡ [] → word (trimmed (decimal n ++ rest)) ≡ decimal n
next_word n rest wide gap =
    let ds = digits_decimal own n wide in
    ap word (trimmed_digits (decimal n) rest ds (decimal_nonempty n wide)) ∙ word_digits (decimal n) rest ds
    ∙ ap (λ z. decimal n ++ z) gap
    ∙ append-nil (decimal n)

-- it is read, and what follows it is left
next_reads : {X : Type 0} (most n : ℕ) (rest : List ℕ) (f : ℕ × List ℕ → Option X) → n ≤ most → n < 2 ^ 64 → word rest ≡ [] → (next most (32 ∷ (decimal n ++ rest)) >>= f) ≡ f (n, behind rest)
next_reads most n rest f fits wide gap =
    let ds = digits_decimal own n wide in
    let v = digits_value-decimal own n wide in
    let some = decimal_nonempty n wide in
    let b : behind (trimmed (decimal n ++ rest)) ≡ behind rest = ap behind (trimmed_digits (decimal n) rest ds some) ∙ behind_digits (decimal n) rest ds in
    let r : number most (decimal n) ≡ Some n = number_reads most (decimal n) some ds (omega arith) ∙ ap Some v in
    went_on _ n _ (behind rest) f (ap (number most) (next_word n rest wide gap) ∙ r) b

byte_reads : {X : Type 0} (n : ℕ) (rest : List ℕ) (f : ℕ × List ℕ → Option X) → n < 2 ^ 8 → word rest ≡ [] → (next 255 (32 ∷ (decimal n ++ rest)) >>= f) ≡ f (n, behind rest)
byte_reads n rest f fits gap = next_reads 255 n rest f (omega arith) (omega arith) gap

wide_reads : {X : Type 0} (n : ℕ) (rest : List ℕ) (f : ℕ × List ℕ → Option X) → n < 2 ^ 16 → word rest ≡ [] → (next 65535 (32 ∷ (decimal n ++ rest)) >>= f) ≡ f (n, behind rest)
wide_reads n rest f fits gap = next_reads 65535 n rest f (omega arith) (omega arith) gap

call_reads : (c : Call) → SayableCall c → says (call_line c) ≡ calls c
call_reads (Lay tail head winch time strain) h =
    ap (said_as calls) (
    byte_reads tail _ _ h.0 refl
    ∙ byte_reads head _ _ h.1 refl
    ∙ byte_reads winch _ _ h.2 refl
    ∙ wide_reads time _ _ h.3 refl
    ∙ byte_reads strain [] _ h.4 refl
    )
call_reads (Strike run) h = ap (said_as calls) (wide_reads run [] _ h refl)
call_reads (Retime run time) h =
    ap (said_as calls) (wide_reads run _ _ h.0 refl ∙ wide_reads time [] _ h.1 refl)
call_reads (Name point text) h =
    ap (said_as calls) (byte_reads point (spaced (text ∷ [])) _ h.0 refl)
    ∙ ap (λ t. calls (Name point t)) (append-nil text)
call_reads Open h = absurd h
call_reads Close h = absurd h
call_reads Write h = absurd h
call_reads Survey h = absurd h
call_reads Route h = absurd h

-- digits are not the word of the setting that bars
no_word : (ds : List ℕ) → all_ascii_digits ds ≡ true → bytes_eq ds (codes "barred") ≡ false
no_word [] h = refl
no_word (d ∷ ds) h = let p = and_parts (is_ascii_digit d) (all_ascii_digits ds) h in grind (arith, nat_tests)

-- a word of a setting, by whether it bars
abbrev pub setting_by : Bool → ℕ → List ℕ
setting_by bars s = cond bars (codes "barred") (decimal s)

setting_reads_by : {X : Type 0} (bars : Bool) (s : ℕ) (f : ℕ × List ℕ → Option X) → eqb s barred ≡ bars → s < 2 ^ 16 → (setting (spaced (setting_by bars s ∷ [])) >>= f) ≡ f (s, [])
setting_reads_by true s f e fits = ap (λ n. f (n, [])) (sym (eqb-true s barred e))
setting_reads_by false s f e fits =
    let penalty : s ≢ 65535 = eqb-false s barred e in
    let w = next_word s [] (omega arith) refl in
    let digits : bytes_eq (word (trimmed (decimal s ++ []))) (codes "barred") ≡ false = ap (λ z. bytes_eq z (codes "barred")) w ∙ no_word (decimal s) (digits_decimal own s (omega arith)) in
    ap (λ t. cond t (Some (barred, behind (trimmed (decimal s ++ [])))) (next 65534 (32 ∷ (decimal s ++ []))) >>= f) digits
    ∙ next_reads 65534 s [] f (omega arith) (omega arith) refl

setting_reads : {X : Type 0} (s : ℕ) (f : ℕ × List ℕ → Option X) → s < 2 ^ 16 → (setting (spaced (setting_word s ∷ [])) >>= f) ≡ f (s, [])
setting_reads s f fits = setting_reads_by (eqb s barred) s f refl fits

-- a line is not over before a number, nor before a setting
number_left : (n : ℕ) (rest : List ℕ) → n < 2 ^ 64 → over (32 ∷ (decimal n ++ rest)) ≡ false
number_left n rest wide =
    let ds = digits_decimal own n wide in
    let some = decimal_nonempty n wide in
    ap (λ (z : List ℕ). eqb (length z) 0) (trimmed_digits (decimal n) rest ds some)
    ∙ ne_eqb (length (decimal n ++ rest)) 0 (λ e. omega (arith, length-append (decimal n) rest))

setting_left : (bars : Bool) (s : ℕ) → s < 2 ^ 16 → over (spaced (setting_by bars s ∷ [])) ≡ false
setting_left true s fits = refl
setting_left false s fits = number_left s [] (omega arith)

-- so the words behind a rule's name set it
sets : (rule : RuleName) (bs : List ℕ) (r : Ruling) → over bs ≡ false → set_words rule bs ≡ Some r → said_as rules (cond (over bs) (Some (Choose rule)) (set_words rule bs)) ≡ rules r
sets rule bs r left e = ap (λ t. said_as rules (cond t (Some (Choose rule)) (set_words rule bs))) left ∙ ap (said_as rules) e

flat_reads : (s : ℕ) → s < 2 ^ 16 → flat_words (spaced (setting_word s ∷ [])) ≡ Some (SetFlat s)
flat_reads s fits = setting_reads s _ fits

point_reads : (point s : ℕ) → point < 2 ^ 8 → s < 2 ^ 16 → point_words (spaced (decimal point ∷ setting_word s ∷ [])) ≡ Some (SetPoint point s)
point_reads point s low fits = byte_reads point _ _ low refl ∙ setting_reads s _ fits

pair_reads : (arriving leaving s : ℕ) → arriving < 2 ^ 8 → leaving < 2 ^ 8 → s < 2 ^ 16 → pair_words (spaced (decimal arriving ∷ decimal leaving ∷ setting_word s ∷ [])) ≡ Some (SetPair arriving leaving s)
pair_reads arriving leaving s low small fits =
    byte_reads arriving _ _ low refl
    ∙ byte_reads leaving _ _ small refl
    ∙ setting_reads s _ fits

ruling_reads : (r : Ruling) → SayableRuling r → says (rule_line r) ≡ rules r
ruling_reads (Choose Flat) h = refl
ruling_reads (Choose Point) h = refl
ruling_reads (Choose Pair) h = refl
ruling_reads (SetFlat s) h = sets Flat (spaced (setting_word s ∷ [])) _ (setting_left (eqb s barred) s h) (flat_reads s h)
ruling_reads (SetPoint point s) h =
    sets Point (spaced (decimal point ∷ setting_word s ∷ [])) _ (number_left point _ (omega arith)) (point_reads point s h.0 h.1)
ruling_reads (SetPair arriving leaving s) h =
    sets Pair (spaced (decimal arriving ∷ decimal leaving ∷ setting_word s ∷ [])) _ (number_left arriving _ (omega arith))
    (pair_reads arriving leaving s h.0 h.1 h.2)

route_reads : (kind : KindName) (home mark : ℕ) → home < 2 ^ 8 → mark < 2 ^ 8 → route_words (spaced ((kind_letter kind ∷ []) ∷ decimal home ∷ decimal mark ∷ [])) ≡ Some (asked kind home mark)
route_reads Time home mark low small = byte_reads home _ _ low refl ∙ byte_reads mark [] _ small refl
route_reads Strain home mark low small = byte_reads home _ _ low refl ∙ byte_reads mark [] _ small refl
route_reads HandOvers home mark low small = byte_reads home _ _ low refl ∙ byte_reads mark [] _ small refl

survey_reads : (kind : KindName) (home : ℕ) → home < 2 ^ 8 → survey_words (spaced ((kind_letter kind ∷ []) ∷ decimal home ∷ [])) ≡ Some (looked kind home)
survey_reads Time home low = byte_reads home [] _ low refl
survey_reads Strain home low = byte_reads home [] _ low refl
survey_reads HandOvers home low = byte_reads home [] _ low refl

pub line_reads_back : LineReadsBack
line_reads_back nothing h = refl
line_reads_back unreadable h = absurd h
line_reads_back (calls c) h = call_reads c h
line_reads_back (rules r) h = ruling_reads r h
line_reads_back (asks q) h = ap (said_as asks) (route_reads q.kind q.home q.mark h.0 h.1)
line_reads_back (looks l) h = ap (said_as looks) (survey_reads l.kind l.home h)
