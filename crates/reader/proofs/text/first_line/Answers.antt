use Rattle.reader.proofs.Feeds.{cut_at, cut_none}
use Rattle.std.proofs.Common.{rules}
use Rattle.reader.proofs.text.first_line.Goals as goal

pub returns-in-Some : goal.returns-in-Some
returns-in-Some c = cut_at c.args.text.now c.in-Some.end c.in-Some.ensures

pub returns-in-None : goal.returns-in-None
returns-in-None c = search (rules, cut_none)
