use Rattle.std.proofs.Common.{length, get_or, take, sym, ap, append-nil, arith}
use Rattle.std.specs.List.{flat_map}
use Rattle.std.proofs.lemmas.Fmt.{length-decimal-le}
use Rattle.std.proofs.lemmas.List.{take_more, flat_map_more}
use Rattle.player.specs.Lines.{field}
use Rattle.player.proofs.listing.put_route.Goals as goal

pub put_field-requires : goal.put_field-requires
put_field-requires c = let l = length-decimal-le 20 c.args.route.now.cost (omega arith) (omega arith) (omega arith) in omega arith

pub put_field-requires-2 : goal.put_field-requires-2
put_field-requires-2 c =
    let l = length-decimal-le 20 c.args.route.now.cost (omega arith) (omega arith) (omega arith) in
    let k = length-decimal-le 3 (length c.as_slice-runs.result.now) (omega arith) (omega arith) (omega arith) in
    omega arith

pub loop-run-init : goal.loop-run-init
loop-run-init c =
    let l = length-decimal-le 20 c.args.route.now.cost (omega arith) (omega arith) (omega arith) in
    let k = length-decimal-le 3 (length c.as_slice-runs.result.now) (omega arith) (omega arith) (omega arith) in
    (sym (append-nil c.put_field-2.new.line.bytes), omega arith)

pub put_field-requires-in-loop-run : goal.put_field-requires-in-loop-run
put_field-requires-in-loop-run c = let l = length-decimal-le 5 c.from.result (omega arith) (omega arith) (omega arith) in omega arith

pub loop-run-preserved : goal.loop-run-preserved
loop-run-preserved c =
    let runs = c.as_slice-runs.result.now in
    let l = length-decimal-le 5 c.from.result (omega arith) (omega arith) (omega arith) in
    let e = ap (flat_map field) (take_more runs c.loop-run.run-index 0 (omega arith)) in
    let f = flat_map_more field c.put_field-2.new.line.bytes (take c.loop-run.run-index runs) (get_or runs c.loop-run.run-index 0) in
    (cc, omega arith)
