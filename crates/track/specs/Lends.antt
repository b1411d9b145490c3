-- What a table of runs ends as, where one run of it is lent to be changed.
use Rattle.std.specs.Prelude.{ℕ, List, [], Ok, Err, Result}
use Rattle.std.specs.Borrow.{LendsIfOk, MutBor, Fml}
use Rattle.arrayvec.specs.ArrayVec.{with_item}
use Rattle.track.specs.declared.run.Run.{Run}
use Rattle.track.specs.declared.run.RunTable.{RunTable}
use Rattle.track.specs.declared.refusal.MapRefusal.{MapRefusal}
use Rattle.track.specs.Answers.{Answer, gave, refused}
use Rattle.track.specs.Refusals.{number}
use Rattle.track.specs.Map.{run_answer}
use Rattle.track.specs.contracts.run.RunTable as table
use Rattle.track.specs.contracts.run.Run as run

-- the table with x as its run k
abbrev pub with_run : RunTable → ℕ → Run → RunTable
with_run t k x = record { runs = with_item t.runs k x }

-- once the loan r ends, run k of the table is the last value written through r; where nothing was lent the table is as it was
abbrev pub LendsRun : MutBor RunTable → ℕ → Result (MutBor Run) MapRefusal → Fml
LendsRun t k r = LendsIfOk table.the_row run.the_row t r (with_run t.now k) t.now

-- what is answered, but for the run that is lent
abbrev pub lent_answer : Result (MutBor Run) MapRefusal → Answer (Unit {0})
lent_answer (Ok x) = gave tt
lent_answer (Err e) = refused (number e)

-- whether the run k of these is in use, and else why it is not
abbrev pub use_answer : List Run → ℕ → Answer (Unit {0})
use_answer runs k = run_answer (record { runs = runs; names = [] }) k
