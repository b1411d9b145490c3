use Rattle.std.proofs.Common.{◌≡◌, codes, rules}
use Rattle.reader.proofs.Spaces.{six_letters}
use Rattle.reader.proofs.rulings.next_setting.Goals as goal

pub returns-in-barred : goal.returns-in-barred
returns-in-barred c =
    let e : c.split_word.result.0.now ≡ codes "barred" = six_letters _ (codes "barred") (search rules) in search rules
