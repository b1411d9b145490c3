use Rattle.std.proofs.Common.{◌≤◌, length, arith, rules}
use Rattle.routing.proofs.Chains.{short}
use Rattle.routing.proofs.follow.follow_back.Goals as goal

pub slice_bounds-write_back-end : goal.slice_bounds-write_back-end
slice_bounds-write_back-end g c =
    let w = c.requires.0.0 in
    let chain = c.requires.0.1 in
    let most = short c.args.table.now c.args.end w chain in
    let within : c.count_back-count.result ≤ length c.args.list.now = omega (arith, c.count_back-count.ensures w chain) in
    search rules
