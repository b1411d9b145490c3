use Rattle.std.proofs.Common.{◌≡◌, ◌<◌, length, fold, ◌+◌, ◌∙◌, sym, arith, rules}
use Rattle.std.specs.List.{sum_by}
use Rattle.std.proofs.lemmas.Iterator.{YieldsList-from_slice}
use Rattle.std.proofs.lemmas.Iterator.Adapters.{fits_from_length, at_most_from_yields_List}
use Rattle.track.specs.Sizes.{most_runs}
use Rattle.tape.proofs.Numbered.{length-numbered}
use Rattle.tape.proofs.write.total_size.Goals as goal

pub returns : goal.returns
returns g c =
    let f = g.T.Item.bytes in
    let items = c.args.items.now in
    let total : c.sum.result ≡ sum_by (λ x. length (f 0 x)) items = search rules in
    let w = c.sum.ensures.runs tt in
    let few : fold (λ a x. a + x) 0 w.0.items < 2561 =
    fits_from_length _ _ most_runs 2561 (at_most_from_yields_List (YieldsList-from_slice items cc) c.requires) c.map.ensures.closure (omega arith) (λ x r q k. search rules) w.0 w.0.seen w.1 in
    record { value = total ∙ sym (length-numbered f g.met.T.Item.same_size 0 items); bound = omega (arith, few, w.3) }
