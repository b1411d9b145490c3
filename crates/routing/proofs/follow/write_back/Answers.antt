use Rattle.std.proofs.Common.{◌≡◌, ℕ, drop, refl, subst, arith, rules}
use Rattle.routing.proofs.Chains.{written_none, written_in, written_more}
use Rattle.routing.proofs.follow.write_back.Goals as goal

pub loop-i-init : goal.loop-i-init
loop-i-init g c = (search rules, λ w chain long. written_none c.args.table.now c.args.end w chain c.args.walk.now _ refl long)

pub run_before-requires : goal.run_before-requires
run_before-requires g c =
    let w = c.requires.0 in
    let chain = c.requires.1 in
    let long = c.requires.2 in
    written_in c.args.table.now c.args.end w chain c.loop-i.walk c.loop-i.i c.loop-i.at c.loop-i-test.true (omega (arith, long)) (c.loop-i.invariant.1 w chain long)

pub loop-i-preserved : goal.loop-i-preserved
loop-i-preserved g c = (
  search rules,
  λ w chain long. rw (c.unwrap_or-at.ensures, c.run_before.ensures) (written_more c.args.table.now c.args.end w chain c.loop-i.walk c.loop-i.i c.loop-i.at c.loop-i-test.true (omega arith) (c.loop-i.invariant.1 w chain long) (omega arith)),
)

pub returns : goal.returns
returns g c w chain long =
    let none : c.loop-i.i ≡ 0 = omega arith in
    subst (λ (i : ℕ). drop i c.loop-i.walk ≡ drop i w) none (c.loop-i.invariant.1 w chain long).rest
