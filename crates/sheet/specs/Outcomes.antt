-- What an outcome of the code tells the crew.
use Rattle.std.specs.Prelude.{Ok, Err, Result}
use Rattle.track.specs.Refusals.{number}
use Rattle.walks.specs.Refusals as rule_refusals
use Rattle.routing.specs.Refusals as search_refusals
use Rattle.sheet.specs.declared.outcomes.Done.{Done}
use Rattle.sheet.specs.declared.outcomes.Done.TheVariants.{Silence, Laid, Struck, Retimed, Named, InForce, Routed}
use Rattle.sheet.specs.declared.outcomes.Refused.{Refused}
use Rattle.sheet.specs.declared.outcomes.Refused.TheVariants.{Unreadable, Call, Rule, Search}
use Rattle.sheet.specs.Replies.{Reply, silence, cannot_be_read, laid, struck, retimed, named, in_force, routed, refusal}

abbrev pub replied : Result Done Refused → Reply
replied (Ok Silence) = silence
replied (Ok (Laid run)) = laid run
replied (Ok Struck) = struck
replied (Ok Retimed) = retimed
replied (Ok Named) = named
replied (Ok (InForce rule)) = in_force rule
replied (Ok (Routed kind r)) = routed kind r.cost r.runs.items
replied (Err Unreadable) = cannot_be_read
replied (Err (Call e)) = refusal (number e)
replied (Err (Rule e)) = refusal (rule_refusals.number e)
replied (Err (Search e)) = refusal (search_refusals.number e)
