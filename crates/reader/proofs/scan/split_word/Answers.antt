use Rattle.std.proofs.Common.{◌≡◌, length, ap, ◌∙◌}
use Rattle.std.specs.Option.{unwrap_or}
use Rattle.reader.proofs.Spaces.{word_end, word_front, word_back}
use Rattle.reader.specs.Scan.{word}
use Rattle.reader.proofs.scan.split_word.Goals as goal

pub returns : goal.returns
returns c =
    let end : c.unwrap_or.result ≡ length (word c.args.bytes.now) = c.unwrap_or.ensures ∙ ap (λ o. unwrap_or o (length c.args.bytes.now)) c.first_of.ensures ∙ word_end c.args.bytes.now in
    record {
      front = c.split_at.ensures.front ∙ word_front c.args.bytes.now _ end;
      back = c.split_at.ensures.back ∙ word_back c.args.bytes.now _ end;
    }
