-- What a line of a sheet says: nothing, a call on the rig, a ruling, a question for a route or a survey, or what cannot be read.
use Rattle.std.specs.Prelude.{ℕ, cond, List, [], ◌∷◌, Some, None, codes, Option, ◌==◌}
use Rattle.std.specs.Str.{bytes_eq}
use Rattle.track.specs.Map.{Call}
use Rattle.track.specs.Map.Call.{Lay, Strike, Retime, Name}
use Rattle.reader.specs.declared.rulings.Ruling.{Ruling}
use Rattle.tape.specs.declared.command.Question.{Question}
use Rattle.reader.specs.declared.questions.Look.{Look}
use Rattle.reader.specs.declared.words.Verb.{Verb}
use Rattle.reader.specs.declared.words.Verb.TheVariants as verb
use Rattle.reader.specs.Scan.{◌>>=◌, trimmed, word, behind, next, ended}
use Rattle.reader.specs.Rulings.{rule_words}
use Rattle.reader.specs.Questions.{route_words, survey_words}

pub data Said : Type 0 where
  nothing : Said
  unreadable : Said
  calls : Call → Said
  rules : Ruling → Said
  asks : Question → Said
  looks : Look → Said

abbrev pub lay_words : List ℕ → Option Call
lay_words bs = do
  (tail, bs) ← next 255 bs
  (head, bs) ← next 255 bs
  (winch, bs) ← next 255 bs
  (time, bs) ← next 65535 bs
  (strain, bs) ← next 255 bs
  ended bs (Lay tail head winch time strain)

abbrev pub strike_words : List ℕ → Option Call
strike_words bs = do
  (run, bs) ← next 65535 bs
  ended bs (Strike run)

abbrev pub retime_words : List ℕ → Option Call
retime_words bs = do
  (run, bs) ← next 65535 bs
  (time, bs) ← next 65535 bs
  ended bs (Retime run time)

-- the text of a name is all that stands behind the one space after its point
abbrev pub name_text : ℕ → List ℕ → Option Call
name_text point [] = None
name_text point (space ∷ bs) = Some (Name point bs)

abbrev pub name_words : List ℕ → Option Call
name_words bs = do
  (point, bs) ← next 255 bs
  name_text point bs

-- the word with that spelling
abbrev pub verb_in : List ℕ → Option Verb
verb_in w =
    cond (bytes_eq w (codes "lay")) (Some verb.Lay)
    (cond (bytes_eq w (codes "strike")) (Some verb.Strike)
    (cond (bytes_eq w (codes "retime")) (Some verb.Retime)
    (cond (bytes_eq w (codes "name")) (Some verb.Name)
    (cond (bytes_eq w (codes "rule")) (Some verb.Rule)
    (cond (bytes_eq w (codes "route")) (Some verb.Route)
    (cond (bytes_eq w (codes "survey")) (Some verb.Survey)
    None))))))

-- what was read, or else the line cannot be read
abbrev pub said_as : {X : Type 0} → (X → Said) → Option X → Said
said_as f None = unreadable
said_as f (Some x) = f x

-- what a line with this first word says, read from the bytes behind it
abbrev pub says_by : Option Verb → List ℕ → Said
says_by None bs = unreadable
says_by (Some verb.Lay) bs = said_as calls (lay_words bs)
says_by (Some verb.Strike) bs = said_as calls (strike_words bs)
says_by (Some verb.Retime) bs = said_as calls (retime_words bs)
says_by (Some verb.Name) bs = said_as calls (name_words bs)
says_by (Some verb.Rule) bs = said_as rules (rule_words bs)
says_by (Some verb.Route) bs = said_as asks (route_words bs)
says_by (Some verb.Survey) bs = said_as looks (survey_words bs)

-- nothing is said by a line of spaces, nor by one whose first byte behind spaces is '#'
abbrev pub says_trimmed : List ℕ → Said
says_trimmed [] = nothing
says_trimmed (b ∷ bs) = cond (b == 35) nothing (says_by (verb_in (word (b ∷ bs))) (behind (b ∷ bs)))

abbrev pub says : List ℕ → Said
says line = says_trimmed (trimmed line)
