use Rattle.std.proofs.Common.{ℕ, ◌+◌, ◌≤◌, List, length, arith, rules}
use Rattle.routing.specs.Chains.{Chain}
use Rattle.routing.proofs.Chains.{Stands, short, stands_end, stands_in, stands_back, stands_first}
use Rattle.routing.proofs.follow.count_back.Given as given
use Rattle.routing.proofs.follow.count_back.Goals as goal

pub loop-run-init : goal.loop-run-init
loop-run-init g c = (omega arith, search rules, λ w chain. stands_end c.args.table.now c.args.end w chain)

pub run_before-requires : goal.run_before-requires
run_before-requires g c =
    let w = c.requires.0 in
    let chain = c.requires.1 in
    stands_in c.args.table.now c.args.end w chain c.loop-run.at c.loop-run.count c.loop-run.invariant.0 (c.loop-run.invariant.2 w chain)

-- one run further back
back : (g : given.Over) (c : goal.In-Some g) (w : List ℕ) → Chain c.args.table.now c.args.end w → Stands w c.in-Some.run' (c.loop-run.count + 1)
back g c w chain = stands_back c.args.table.now c.args.end w chain c.loop-run.at c.loop-run.count c.loop-run.invariant.0 (c.loop-run.invariant.2 w chain) c.in-Some.run' c.in-Some.ensures

-- the count stays within the table
within : (g : given.Over) (c : goal.In-Some g) → c.loop-run.count + 1 ≤ length c.args.table.now
within g c =
    let here = back g c c.requires.0 c.requires.1 in
    let most = short c.args.table.now c.args.end c.requires.0 c.requires.1 in
    omega (arith, here.rest)

pub overflow_add-count : goal.overflow_add-count
overflow_add-count g c = let most = within g c in search rules

pub loop-run-smaller : goal.loop-run-smaller
loop-run-smaller g c = omega (arith, within g c)

pub loop-run-preserved : goal.loop-run-preserved
loop-run-preserved g c = (omega arith, search rules, back g c)

pub returns : goal.returns
returns g c w chain = stands_first c.args.table.now c.args.end w chain c.loop-run.at c.loop-run.count c.loop-run.invariant.0 (c.loop-run.invariant.2 w chain) c.in_default.ensures
