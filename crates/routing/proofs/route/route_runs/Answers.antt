use Rattle.std.proofs.Common.{◌≡◌, ℕ, Option, None, Some, ◌∙◌, subst, arith}
use Rattle.walks.specs.Cheapest.{Task}
use Rattle.routing.specs.Asked.{asked}
use Rattle.routing.specs.Tables.{reached, BoardPlace}
use Rattle.routing.proofs.Promises.{walk_home, walk_by}
use Rattle.routing.proofs.route.route_runs.Given as given
use Rattle.routing.proofs.route.route_runs.Goals as goal
use Rattle.routing.proofs.route.route_runs.Goals.{In_ok-cost, in-None, in-Some}

-- what is asked
abbrev the_task : (g : given.Over) (c : In_ok-cost g) → Task g.row.K-Cost.Denot
the_task g c = asked g.K.CostKind.meaning g.R.HandoverRule.table c.args.task.now

-- the mark is reached at the cost that is answered, by this run
found : (g : given.Over) (c : In_ok-cost g) (b : Option ℕ) → c.in_ok-cost.field-0.run ≡ b → BoardPlace (the_task g c) c.search.new.table c.args.mark (reached c.in_ok-cost.field-0.cost b)
found g c b is =
    subst (λ (x : Option ℕ). BoardPlace (the_task g c) c.search.new.table c.args.mark (reached c.in_ok-cost.field-0.cost x)) is
    (subst (BoardPlace (the_task g c) c.search.new.table c.args.mark) c.in_ok-cost.ensures.ok_part (c.place_of.ensures c.search.ensures))

pub follow_back-count-requires : goal.follow_back-count-requires
follow_back-count-requires g c =
    let d = (goal.at.follow_back-count-requires g c).In_ok-cost in
    let way = walk_by (the_task g d) c.search.new.table c.args.mark c.in_ok-cost.field-0.cost c.in-Some.end c.search.ensures (omega arith) (found g d (Some c.in-Some.end) c.in-Some.is) in
    ((way.0, way.2), omega arith)

pub returns-clause-routed : goal.returns-clause-routed
returns-clause-routed g c =
    let d = (goal.at.returns-clause-routed g c).In_ok-cost in
    elim c.match-run.branch [
      | in-None w ↦ (let way = walk_home (the_task g d) c.search.new.table c.args.mark c.in_ok-cost.field-0.cost c.args.list.now (found g d None w.in-None.is) in
          (way.0, way.1, way.2, w.count-is ∙ way.3, w.list-is ∙ way.4))
      | in-Some w ↦ (let way = walk_by (the_task g d) c.search.new.table c.args.mark c.in_ok-cost.field-0.cost w.in-Some.end c.search.ensures (omega arith) (found g d (Some w.in-Some.end) w.in-Some.is) in
          let back = w.follow_back-count.ensures way.0 way.2 in
          (way.0, way.1, way.2.once, w.count-is ∙ back.0, w.list-is ∙ back.1))
    ]
