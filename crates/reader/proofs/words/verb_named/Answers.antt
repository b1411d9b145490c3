use Rattle.std.proofs.Common.{codes, sym, ap, rules}
use Rattle.reader.proofs.Spaces.{six_letters}
use Rattle.reader.specs.Words.{verb_in}
use Rattle.reader.proofs.words.verb_named.Goals as goal

pub returns-in-strike : goal.returns-in-strike
returns-in-strike c = ap verb_in (sym (six_letters c.args.word.now (codes "strike") (search rules)))

pub returns-in-retime : goal.returns-in-retime
returns-in-retime c = ap verb_in (sym (six_letters c.args.word.now (codes "retime") (search rules)))

pub returns-in-survey : goal.returns-in-survey
returns-in-survey c = ap verb_in (sym (six_letters c.args.word.now (codes "survey") (search rules)))
