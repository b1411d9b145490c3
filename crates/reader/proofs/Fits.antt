-- What a line that can be read says fits its operands.
use Rattle.std.proofs.Common.{ℕ, ◌≤◌, Bool, true, false, cond, ◌&&◌, eqb, leb, ◌≢◌, List, [], ◌∷◌, IfSome, Some, None, codes, Option, refl, arith}
use Rattle.std.proofs.lemmas.Bool.{and_parts, leb-true, cond_both}
use Rattle.std.specs.Str.{all_ascii_digits, bytes_eq}
use Rattle.tape.specs.declared.command.RuleName.{RuleName}
use Rattle.tape.specs.declared.command.RuleName.TheVariants.{Flat, Point, Pair}
use Rattle.track.specs.Map.Call.{Strike, Retime}
use Rattle.walks.specs.Rules.{barred}
use Rattle.reader.proofs.Feeds.{NoFeed}
use Rattle.reader.specs.declared.rulings.Ruling.TheVariants.{Choose, SetFlat, SetPoint, SetPair}
use Rattle.reader.specs.declared.words.Verb.{Verb}
use Rattle.reader.specs.declared.words.Verb.TheVariants as verb
use Rattle.reader.specs.Scan.{◌>>=◌, trimmed, word, behind, value, number, next, over, ended}
use Rattle.reader.specs.Rulings.{setting, rule_in, set_words, rule_words}
use Rattle.reader.specs.Questions.{kind_in, next_kind, asked, looked, route_words, survey_words}
use Rattle.reader.specs.Words.{Said, nothing, unreadable, calls, rules, asks, looks, lay_words, strike_words, retime_words, name_text, name_words, verb_in, says_by, says_trimmed, said_as}
use Rattle.reader.specs.Plain.{SayableCall, SayableRuling, Sayable, SaysSayable}

-- reading goes on with what was found
on : {X Y : Type 0} (P : X → Type 0) (Q : Y → Type 0) (o : Option X) (f : X → Option Y) → IfSome o P → ((x : X) → P x → IfSome (f x) Q) → IfSome (o >>= f) Q
on P Q None f h k = tt
on P Q (Some x) f h k = k x h

anything : {X : Type 0} (o : Option X) → IfSome o (λ x. Unit {0})
anything None = tt
anything (Some x) = tt

trimmed_no_feed : (bs : List ℕ) → NoFeed bs → NoFeed (trimmed bs)
trimmed_no_feed [] h = tt
trimmed_no_feed (b ∷ bs) h = cond_both (eqb b 32) (trimmed bs) (b ∷ bs) NoFeed (λ e. trimmed_no_feed bs h.1) (λ e. h)

behind_no_feed : (bs : List ℕ) → NoFeed bs → NoFeed (behind bs)
behind_no_feed [] h = tt
behind_no_feed (b ∷ bs) h = cond_both (eqb b 32) (b ∷ bs) (behind bs) NoFeed (λ e. h) (λ e. behind_no_feed bs h.1)

rest_no_feed : (bs : List ℕ) → NoFeed bs → NoFeed (behind (trimmed bs))
rest_no_feed bs h = behind_no_feed (trimmed bs) (trimmed_no_feed bs h)

-- a number up to a limit, and a rest with no line feed
abbrev UpTo : ℕ → ℕ × List ℕ → Type 0
UpTo most p = (p.0 ≤ most) × NoFeed p.1

number_fits : (most : ℕ) (w : List ℕ) → IfSome (number most w) (λ n. n ≤ most)
number_fits most [] = tt
number_fits most (d ∷ ds) =
    cond_both (all_ascii_digits (d ∷ ds) && leb (value 0 (d ∷ ds)) most) (Some (value 0 (d ∷ ds))) None (λ o. IfSome o (λ n. n ≤ most))
    (λ e. leb-true _ most (and_parts (all_ascii_digits (d ∷ ds)) _ e).1)
    (λ e. tt)

next_fits : (most : ℕ) (bs : List ℕ) → NoFeed bs → IfSome (next most bs) (UpTo most)
next_fits most bs h =
    on (λ n. n ≤ most) (UpTo most) (number most (word (trimmed bs))) (λ n. Some (n, behind (trimmed bs))) (number_fits most (word (trimmed bs))) (λ n fits. (fits, rest_no_feed bs h))

penalty_fits : (o : Option (ℕ × List ℕ)) → IfSome o (UpTo 65534) → IfSome o (UpTo 65535)
penalty_fits None h = tt
penalty_fits (Some p) h = (omega arith, h.1)

setting_fits : (bs : List ℕ) → NoFeed bs → IfSome (setting bs) (UpTo 65535)
setting_fits bs h =
    cond_both (bytes_eq (word (trimmed bs)) (codes "barred")) (Some (barred, behind (trimmed bs))) (next 65534 bs) (λ o. IfSome o (UpTo 65535))
    (λ e. (omega arith, rest_no_feed bs h))
    (λ e. penalty_fits (next 65534 bs) (next_fits 65534 bs h))

kind_fits : (bs : List ℕ) → NoFeed bs → IfSome (next_kind bs) (λ p. NoFeed p.1)
kind_fits bs h =
    on (λ k. Unit {0}) (λ p. NoFeed p.1) (kind_in (word (trimmed bs))) (λ k. Some (k, behind (trimmed bs))) (anything (kind_in (word (trimmed bs)))) (λ k t. rest_no_feed bs h)

ended_fits : {X : Type 0} (P : X → Type 0) (bs : List ℕ) (x : X) → P x → IfSome (ended bs x) P
ended_fits P bs x h = cond_both (over bs) (Some x) None (λ o. IfSome o P) (λ e. h) (λ e. tt)

-- the next number of at most 255, or 65,535, and then the others
byte : {Y : Type 0} (Q : Y → Type 0) (bs : List ℕ) (f : ℕ × List ℕ → Option Y) → NoFeed bs → ((p : ℕ × List ℕ) → UpTo 255 p → IfSome (f p) Q) → IfSome (next 255 bs >>= f) Q
byte Q bs f h k = on (UpTo 255) Q (next 255 bs) f (next_fits 255 bs h) k

wide : {Y : Type 0} (Q : Y → Type 0) (bs : List ℕ) (f : ℕ × List ℕ → Option Y) → NoFeed bs → ((p : ℕ × List ℕ) → UpTo 65535 p → IfSome (f p) Q) → IfSome (next 65535 bs >>= f) Q
wide Q bs f h k = on (UpTo 65535) Q (next 65535 bs) f (next_fits 65535 bs h) k

set : {Y : Type 0} (Q : Y → Type 0) (bs : List ℕ) (f : ℕ × List ℕ → Option Y) → NoFeed bs → ((p : ℕ × List ℕ) → UpTo 65535 p → IfSome (f p) Q) → IfSome (setting bs >>= f) Q
set Q bs f h k = on (UpTo 65535) Q (setting bs) f (setting_fits bs h) k

lay_fits : (bs : List ℕ) → NoFeed bs → IfSome (lay_words bs) SayableCall
lay_fits bs h =
    byte SayableCall bs _ h (λ a ha.
    byte SayableCall a.1 _ ha.1 (λ b hb.
    byte SayableCall b.1 _ hb.1 (λ c hc.
    wide SayableCall c.1 _ hc.1 (λ d hd.
    byte SayableCall d.1 _ hd.1 (λ e he.
    ended_fits SayableCall e.1 _ (omega arith, omega arith, omega arith, omega arith, omega arith))))))

strike_fits : (bs : List ℕ) → NoFeed bs → IfSome (strike_words bs) SayableCall
strike_fits bs h = wide SayableCall bs _ h (λ a ha. ended_fits SayableCall a.1 (Strike a.0) (omega arith))

retime_fits : (bs : List ℕ) → NoFeed bs → IfSome (retime_words bs) SayableCall
retime_fits bs h =
    wide SayableCall bs _ h (λ a ha.
    wide SayableCall a.1 _ ha.1 (λ b hb.
    ended_fits SayableCall b.1 (Retime a.0 b.0) (omega arith, omega arith)))

text_fits : (point : ℕ) (bs : List ℕ) → point ≤ 255 → NoFeed bs → IfSome (name_text point bs) SayableCall
text_fits point [] fits h = tt
text_fits point (b ∷ bs) fits h = (omega arith, h.1)

name_fits : (bs : List ℕ) → NoFeed bs → IfSome (name_words bs) SayableCall
name_fits bs h = byte SayableCall bs _ h (λ a ha. text_fits a.0 a.1 ha.0 ha.1)

set_fits : (rule : RuleName) (bs : List ℕ) → NoFeed bs → IfSome (set_words rule bs) SayableRuling
set_fits Flat bs h = set SayableRuling bs _ h (λ a ha. ended_fits SayableRuling a.1 (SetFlat a.0) (omega arith))
set_fits Point bs h =
    byte SayableRuling bs _ h (λ a ha.
    set SayableRuling a.1 _ ha.1 (λ b hb. ended_fits SayableRuling b.1 (SetPoint a.0 b.0) (omega arith, omega arith)))
set_fits Pair bs h =
    byte SayableRuling bs _ h (λ a ha.
    byte SayableRuling a.1 _ ha.1 (λ b hb.
    set SayableRuling b.1 _ hb.1 (λ c hc. ended_fits SayableRuling c.1 (SetPair a.0 b.0 c.0) (omega arith, omega arith, omega arith))))

rule_fits : (bs : List ℕ) → NoFeed bs → IfSome (rule_words bs) SayableRuling
rule_fits bs h =
    on (λ r. Unit {0}) SayableRuling (rule_in (word (trimmed bs))) _ (anything (rule_in (word (trimmed bs))))
    (λ r t. cond_both (over (behind (trimmed bs))) (Some (Choose r)) (set_words r (behind (trimmed bs))) (λ o. IfSome o SayableRuling) (λ e. tt) (λ e. set_fits r (behind (trimmed bs)) (rest_no_feed bs h)))

route_fits : (bs : List ℕ) → NoFeed bs → IfSome (route_words bs) (λ q. Sayable (asks q))
route_fits bs h =
    on (λ p. NoFeed p.1) (λ q. Sayable (asks q)) (next_kind bs) _ (kind_fits bs h) (λ k hk.
    byte (λ q. Sayable (asks q)) k.1 _ hk (λ a ha.
    byte (λ q. Sayable (asks q)) a.1 _ ha.1 (λ b hb.
    ended_fits (λ q. Sayable (asks q)) b.1 (asked k.0 a.0 b.0) (omega arith, omega arith))))

survey_fits : (bs : List ℕ) → NoFeed bs → IfSome (survey_words bs) (λ l. Sayable (looks l))
survey_fits bs h =
    on (λ p. NoFeed p.1) (λ l. Sayable (looks l)) (next_kind bs) _ (kind_fits bs h) (λ k hk.
    byte (λ l. Sayable (looks l)) k.1 _ hk (λ a ha. ended_fits (λ l. Sayable (looks l)) a.1 (looked k.0 a.0) (omega arith)))

-- what can be read is sayable
abbrev Fine : Said → Type 0
Fine s = s ≢ unreadable → Sayable s

fine_as : {X : Type 0} (f : X → Said) (o : Option X) → IfSome o (λ x. Sayable (f x)) → Fine (said_as f o)
fine_as f None h read = absurd (read refl)
fine_as f (Some x) h read = h

fine_cond : (t : Bool) (a b : Said) → Fine a → Fine b → Fine (cond t a b)
fine_cond true a b h k = h
fine_cond false a b h k = k

words_fine : (v : Option Verb) (bs : List ℕ) → NoFeed bs → Fine (says_by v bs)
words_fine None bs h = λ read. absurd (read refl)
words_fine (Some verb.Lay) bs h = fine_as calls (lay_words bs) (lay_fits bs h)
words_fine (Some verb.Strike) bs h = fine_as calls (strike_words bs) (strike_fits bs h)
words_fine (Some verb.Retime) bs h = fine_as calls (retime_words bs) (retime_fits bs h)
words_fine (Some verb.Name) bs h = fine_as calls (name_words bs) (name_fits bs h)
words_fine (Some verb.Rule) bs h = fine_as rules (rule_words bs) (rule_fits bs h)
words_fine (Some verb.Route) bs h = fine_as asks (route_words bs) (route_fits bs h)
words_fine (Some verb.Survey) bs h = fine_as looks (survey_words bs) (survey_fits bs h)

trimmed_fine : (bs : List ℕ) → NoFeed bs → Fine (says_trimmed bs)
trimmed_fine [] h = λ read. tt
trimmed_fine (b ∷ bs) h = fine_cond (eqb b 35) nothing _ (λ read. tt) (words_fine (verb_in (word (b ∷ bs))) (behind (b ∷ bs)) (behind_no_feed (b ∷ bs) h))

pub says_sayable : SaysSayable
says_sayable line h = trimmed_fine (trimmed line) (trimmed_no_feed line h)
