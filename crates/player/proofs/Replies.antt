-- From what a desk of the code answers to the line that the player writes.
use Rattle.std.proofs.Common.{◌≡◌, ℕ, List, Ok, Some, refl}
use Rattle.track.specs.Sizes.{most_runs}
use Rattle.track.specs.Answers.{Answer, gave, refused}
use Rattle.routing.specs.Route.{route_checks}
use Rattle.tape.specs.declared.command.KindName.{KindName}
use Rattle.tape.specs.Commands.{ask}
use Rattle.desk.specs.declared.ask.Route.{Route}
use Rattle.desk.specs.Desks.{Desk}
use Rattle.desk.specs.Asking.{Asked, AskDone, told_in}
use Rattle.player.specs.Faults.{in_search}
use Rattle.player.specs.Lines.{line_of}
use Rattle.player.specs.Writing.{reply_of, line_left}
use Rattle.player.specs.Play.{asked, step, unless_refused}
use Rattle.player.specs.Obeying.{ToldTurn, line_told, Obeyed}

told_by : (checks : Answer (Unit {0})) (d : Desk) (kind : KindName) (home mark : ℕ) (route : Route) (was : List ℕ) (r : ToldTurn) (d' : Desk) (is : List ℕ) → Asked checks d kind home mark (told_in (Ok tt) route)
    → r ≡ line_told (line_of kind home mark (reply_of (Some route))) was → d' ≡ d → is ≡ line_left (line_of kind home mark (reply_of (Some route))) was → Obeyed (unless_refused in_search checks (asked kind home mark)) d was r d' is
told_by (gave x) d kind home mark route was r d' is done told same left = (reply_of (Some route), done, told, same, left)
told_by (refused n) d kind home mark route was r d' is done told same left = cc

-- where a route is answered, its line is told
pub told_line : (d : Desk) (kind : KindName) (home mark : ℕ) (route : Route) (was : List ℕ) (r : ToldTurn) (d' : Desk) (is : List ℕ) → AskDone d kind home mark (told_in (Ok tt) route)
    → r ≡ line_told (line_of kind home mark (reply_of (Some route))) was → d' ≡ d → is ≡ line_left (line_of kind home mark (reply_of (Some route))) was → Obeyed (step d (ask kind home mark)) d was r d' is
told_line d kind home mark route = told_by (route_checks d.map home mark most_runs most_runs) d kind home mark route
