-- What a line that asks a route or a survey says.
use Rattle.std.specs.Prelude.{ℕ, List, [], ◌∷◌, Some, None, Option}
use Rattle.tape.specs.declared.command.KindName.{KindName}
use Rattle.tape.specs.Letters.{kind_named}
use Rattle.tape.specs.declared.command.Question.{Question}
use Rattle.reader.specs.declared.questions.Look.{Look}
use Rattle.reader.specs.Scan.{◌>>=◌, trimmed, word, behind, next, ended}

-- a kind of cost goes by one letter
abbrev pub kind_in : List ℕ → Option KindName
kind_in [] = None
kind_in (b ∷ []) = kind_named b
kind_in (b ∷ (c ∷ bs)) = None

abbrev pub next_kind : List ℕ → Option (KindName × List ℕ)
next_kind bs = do
  kind ← kind_in (word (trimmed bs))
  Some (kind, behind (trimmed bs))

abbrev pub asked : KindName → (home mark : ℕ) → Question
asked kind home mark = record { kind = kind; home = home; mark = mark }

abbrev pub route_words : List ℕ → Option Question
route_words bs = do
  (kind, bs) ← next_kind bs
  (home, bs) ← next 255 bs
  (mark, bs) ← next 255 bs
  ended bs (asked kind home mark)

abbrev pub looked : KindName → (home : ℕ) → Look
looked kind home = record { kind = kind; home = home }

abbrev pub survey_words : List ℕ → Option Look
survey_words bs = do
  (kind, bs) ← next_kind bs
  (home, bs) ← next 255 bs
  ended bs (looked kind home)
