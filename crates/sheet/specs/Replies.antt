-- What the crew is told of each line, and what the lines leave of the desk.
use Rattle.std.specs.Prelude.{◌≡◌, ℕ, List, [], ◌∷◌, ◌++◌}
use Rattle.track.specs.Answers.{Answer, gave, refused}
use Rattle.track.specs.Map.{Map, Call, after, lay_answer, run_answer, name_answer}
use Rattle.track.specs.Map.Call.{Lay, Strike, Retime, Name, Open, Close, Write, Survey, Route}
use Rattle.track.specs.Calls.{map_of, LeftBy}
use Rattle.tape.specs.declared.command.KindName.{KindName}
use Rattle.tape.specs.declared.command.RuleName.{RuleName}
use Rattle.desk.specs.Desks.{Desk, with_map}
use Rattle.desk.specs.Asking.{desk_of, AskDone}
use Rattle.reader.specs.Words.{Said, nothing, unreadable, calls, rules, asks, looks, says}
use Rattle.sheet.specs.declared.obey.Desk as code
use Rattle.sheet.specs.Ruled.{rule_of, ruling_answer, ruled}

-- the map of a desk's rig beside its rules
abbrev pub desk_in : code.Desk → Desk
desk_in d = desk_of (map_of d.rig) d.rules

pub data Reply : Type 0 where
  -- of a line that says nothing
  silence : Reply
  cannot_be_read : Reply
  laid : (run : ℕ) → Reply
  struck : Reply
  retimed : Reply
  named : Reply
  in_force : RuleName → Reply
  routed : KindName → (cost : ℕ) → (runs : List ℕ) → Reply
  refusal : (number : ℕ) → Reply

-- what the call gave, in words of its own, or its refusal
abbrev pub told_as : {X : Type 0} → (X → Reply) → Answer X → Reply
told_as f (gave x) = f x
told_as f (refused n) = refusal n

-- the others are never on a sheet
abbrev pub call_reply : Map → Call → Reply
call_reply m (Lay tail head winch time strain) = told_as laid (lay_answer m tail head winch strain)
call_reply m (Strike run) = told_as (λ _. struck) (run_answer m run)
call_reply m (Retime run time) = told_as (λ _. retimed) (run_answer m run)
call_reply m (Name point text) = told_as (λ _. named) (name_answer point text)
call_reply m Open = silence
call_reply m Close = silence
call_reply m Write = silence
call_reply m Survey = silence
call_reply m Route = silence

-- which of several cheapest routes is told is left open, so that the reply to a question is no equation with the desk
abbrev pub Told : Desk → Said → Reply → Type 0
Told d nothing r = r ≡ silence
Told d unreadable r = r ≡ cannot_be_read
Told d (calls c) r = r ≡ call_reply d.map c
Told d (rules x) r = r ≡ told_as (λ _. in_force (rule_of x)) (ruling_answer x)
Told d (asks q) r = (a : Answer (ℕ × List ℕ)) × (r ≡ told_as (λ x. routed q.kind x.0 x.1) a) × AskDone d q.kind q.home q.mark a
-- a sheet asks no survey: a line that does is told as one that cannot be read
Told d (looks l) r = r ≡ cannot_be_read

-- the desk that one line leaves
abbrev pub left : Desk → Said → Desk
left d nothing = d
left d unreadable = d
left d (calls c) = with_map d (after d.map c)
left d (rules x) = ruled d x
left d (asks q) = d
left d (looks l) = d

-- the desk that all the lines leave
abbrev pub lefts : Desk → List (List ℕ) → Desk
lefts d [] = d
lefts d (l ∷ ls) = lefts (left d (says l)) ls

-- a reply to each line, right on the desk that the lines before it left
abbrev pub AllTold : Desk → List (List ℕ) → List Reply → Type 0
AllTold d [] [] = Unit {0}
AllTold d [] (r ∷ rs) = ⊥
AllTold d (l ∷ ls) [] = ⊥
AllTold d (l ∷ ls) (r ∷ rs) = Told d (says l) r × AllTold (left d (says l)) ls rs

-- every list of calls that left the first map, and these calls after it, left the second
abbrev pub GoesOn : Map → List Call → Map → Type 0
GoesOn m cs n = (before : List Call) → LeftBy before m → LeftBy (before ++ cs) n
