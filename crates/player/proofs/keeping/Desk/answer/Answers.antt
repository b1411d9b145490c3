use Rattle.std.proofs.Common.{rules}
use Rattle.player.specs.Obeying.{desk_in}
use Rattle.player.proofs.Replies.{told_line}
use Rattle.player.proofs.keeping.Desk.answer.Goals as goal

pub returns-in_err-write_line-in-Ok : goal.returns-in_err-write_line-in-Ok
returns-in_err-write_line-in-Ok c =
    told_line (desk_in c.args.self.now) c.args.question.kind c.args.question.home c.args.question.mark c.ask_of_into.new.route c.args.rest.now _ _ _ (search rules) (search rules) (search rules) (search rules)

pub returns-in_ok-write_line-in-Ok : goal.returns-in_ok-write_line-in-Ok
returns-in_ok-write_line-in-Ok c =
    told_line (desk_in c.args.self.now) c.args.question.kind c.args.question.home c.args.question.mark c.ask_of_into.new.route c.args.rest.now _ _ _ (search rules) (search rules) (search rules) (search rules)
