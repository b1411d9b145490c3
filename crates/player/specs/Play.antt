-- What a tape plays: the rig, the listing and the fault, from the tape's bytes, the room in the listing and the replies to the questions.
use Rattle.std.specs.Prelude.{◌≡◌, ℕ, zero, suc, pred, ◌-◌, cond, List, [], ◌∷◌, ◌++◌, length, drop, Some, None, Ok, Err, MatchBool, Option, Result, nat_le}
use Rattle.track.specs.Sizes.{most_runs}
use Rattle.track.specs.Answers.{Answer, gave, refused}
use Rattle.track.specs.Map.{Map, after, lay_answer, run_answer, name_answer}
use Rattle.track.specs.Map.Call.{Lay, Strike, Retime, Name}
use Rattle.walks.specs.Settings.{point_answer, point_after, pair_answer, pair_after}
use Rattle.routing.specs.Route.{route_checks}
use Rattle.tape.specs.declared.command.KindName.{KindName}
use Rattle.tape.specs.Refusals.{cause_number}
use Rattle.tape.specs.Commands.{Said, lay, strike, retime, name, set_flat, set_point, set_pair, use_rule, ask}
use Rattle.tape.specs.Reading.{Read, decode}
use Rattle.desk.specs.Desks.{Desk, new_desk, with_map, with_flat, with_point, with_pair, with_rule, Reply, RightReply}
use Rattle.player.specs.Faults.{LayerName, ToldFault, in_tape, in_map, in_rule, in_search, in_listing}
use Rattle.player.specs.Lines.{line_of}

-- what a command comes to: the desk after it, a fault, or a question to be answered
pub data Step : Type 0 where
  done : Desk → Step
  failed : (number : ℕ) → LayerName → Step
  asked : KindName → (home mark : ℕ) → Step

-- the call's own refusal is the fault
abbrev pub unless_refused : {X : Type 0} → LayerName → Answer X → Step → Step
unless_refused layer (gave x) s = s
unless_refused layer (refused n) s = failed n layer

abbrev pub step : Desk → Said → Step
step d (lay tail head winch time strain) = unless_refused in_map (lay_answer d.map tail head winch strain) (done (with_map d (after d.map (Lay tail head winch time strain))))
step d (strike run) = unless_refused in_map (run_answer d.map run) (done (with_map d (after d.map (Strike run))))
step d (retime run time) = unless_refused in_map (run_answer d.map run) (done (with_map d (after d.map (Retime run time))))
step d (name point text) = unless_refused in_map (name_answer point text) (done (with_map d (after d.map (Name point text))))
step d (set_flat setting) = done (with_flat d setting)
step d (set_point point setting) = unless_refused in_rule (point_answer point) (done (with_point d (point_after d.point point setting)))
step d (set_pair arriving leaving setting) = unless_refused in_rule (pair_answer arriving leaving) (done (with_pair d (pair_after d.pair arriving leaving setting)))
step d (use_rule r) = done (with_rule d r)
step d (ask kind home mark) = unless_refused in_search (route_checks d.map home mark most_runs most_runs) (asked kind home mark)

-- the commands of a tape, each with the place of its first byte; one that cannot be read is the last
pub record Item : Type 0 where
  pub place : ℕ
  pub says : Result Said ℕ

abbrev pub then : Read → (place : ℕ) → (ℕ → List Item) → List Item
then (Ok (c, n)) place on = record { place = place; says = Ok c } ∷ on (pred n)
then (Err e) place on = record { place = place; says = Err (cause_number e) } ∷ []

-- `skip` bytes of these belong to the command before
abbrev pub items : (place skip : ℕ) → List ℕ → List Item
items place skip [] = []
items place (suc s) (b ∷ bs) = items (suc place) s bs
items place zero (b ∷ bs) = then (decode (b ∷ bs)) place (λ s. items (suc place) s bs)

-- the desk in the end, the text of the listing, and the fault if there is one
pub record Outcome : Type 0 where
  pub desk : Desk
  pub text : List ℕ
  pub fault : Option ToldFault

abbrev pub ends : Desk → Outcome
ends d = record { desk = d; text = []; fault = None }

abbrev pub faults : Desk → (number place : ℕ) → LayerName → Outcome
faults d number place layer = record { desk = d; text = []; fault = Some (record { number = number; place = place; layer = layer }) }

abbrev pub behind : List ℕ → Outcome → Outcome
behind line o = record { desk = o.desk; text = line ++ o.text; fault = o.fault }

-- a line that fits is written, and play goes on; one that does not is the fault 18
abbrev pub listed : Desk → (place : ℕ) → (line : List ℕ) → (room : ℕ) → (ℕ → Outcome) → Outcome
listed d place line room on = cond (nat_le (length line) room) (behind line (on (room - length line))) (faults d 18 place in_listing)

-- the next reply answers the question; there is always one, see RepliesRight
abbrev pub replied : Desk → (place : ℕ) → KindName → (home mark : ℕ) → List Reply → (room : ℕ) → (List Reply → ℕ → Outcome) → Outcome
replied d place kind home mark [] room on = ends d
replied d place kind home mark (r ∷ rs) room on = listed d place (line_of kind home mark r) room (λ left. on rs left)

abbrev pub goes : Step → Desk → (place : ℕ) → List Reply → (room : ℕ) → (Desk → List Reply → ℕ → Outcome) → Outcome
goes (done d') d place rs room on = on d' rs room
goes (failed n layer) d place rs room on = faults d n place layer
goes (asked kind home mark) d place rs room on = replied d place kind home mark rs room (λ rs left. on d rs left)

-- a command that cannot be read is a fault of the tape
abbrev pub unless_unread : Result Said ℕ → Desk → (place : ℕ) → (Said → Outcome) → Outcome
unless_unread (Ok c) d place on = on c
unless_unread (Err n) d place on = faults d n place in_tape

abbrev pub played : Desk → List Item → List Reply → (room : ℕ) → Outcome
played d [] rs room = ends d
played d (i ∷ is) rs room = unless_unread i.says d i.place (λ c. goes (step d c) d i.place rs room (λ e qs left. played e is qs left))

-- The replies are right: one for each question that is put to the search, in turn, and each of them right on the desk as it is then.
abbrev pub RightNext : Desk → KindName → (home mark : ℕ) → List Reply → (room : ℕ) → (List Reply → ℕ → Type 0) → Type 0
RightNext d kind home mark [] room On = ⊥
RightNext d kind home mark (r ∷ rs) room On =
    RightReply d kind home mark r × MatchBool (nat_le (length (line_of kind home mark r)) room) (On rs (room - length (line_of kind home mark r))) (rs ≡ [])

abbrev pub RightStep : Step → Desk → List Reply → (room : ℕ) → (Desk → List Reply → ℕ → Type 0) → Type 0
RightStep (done d') d rs room On = On d' rs room
RightStep (failed n layer) d rs room On = rs ≡ []
RightStep (asked kind home mark) d rs room On = RightNext d kind home mark rs room (λ qs left. On d qs left)

abbrev pub RightItem : Result Said ℕ → List Reply → (Said → Type 0) → Type 0
RightItem (Ok c) rs On = On c
RightItem (Err n) rs On = rs ≡ []

abbrev pub RepliesRight : Desk → List Item → List Reply → (room : ℕ) → Type 0
RepliesRight d [] rs room = rs ≡ []
RepliesRight d (i ∷ is) rs room = RightItem i.says rs (λ c. RightStep (step d c) d rs room (λ e qs left. RepliesRight e is qs left))

-- What play promises of a tape and a listing buffer that was `was` and is `is`: the map of the rig, the length written and the fault.
-- The replies are the one free choice.
pub record PlayDone (bytes was : List ℕ) (rig : Map) (len : ℕ) (fault : Option ToldFault) (is : List ℕ) : Type 0 where
  pub replies : List Reply
  pub right : RepliesRight new_desk (items 0 0 bytes) replies (length was)
  pub rig_is : rig ≡ (played new_desk (items 0 0 bytes) replies (length was)).desk.map
  pub len_is : len ≡ length (played new_desk (items 0 0 bytes) replies (length was)).text
  pub fault_is : fault ≡ (played new_desk (items 0 0 bytes) replies (length was)).fault
  pub listing_is : is ≡ (played new_desk (items 0 0 bytes) replies (length was)).text ++ drop len was
