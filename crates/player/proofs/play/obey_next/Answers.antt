use Rattle.tape.specs.Commands.{said}
use Rattle.player.specs.Play.{step}
use Rattle.player.specs.Obeying.{desk_in}
use Rattle.player.proofs.Turns.{written_within}
use Rattle.player.proofs.play.obey_next.Goals as goal

pub returns-clause-within : goal.returns-clause-within
returns-clause-within c =
    let d = desk_in c.args.desk.now in
    let read = c.in_ok-command.ensures.within in (
      read.0,
      read.1,
      written_within (step d (said c.in_ok-command.command)) d c.args.rest.now c.in_ok-written.written (desk_in c.obey.new.self) c.obey.new.rest c.in_ok-written.ensures,
    )
