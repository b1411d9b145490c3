-- What a task asks. For inner functions; no public contract speaks of it.
use Rattle.walks.specs.Kinds.{Kind}
use Rattle.walks.specs.Rules.{Rule}
use Rattle.walks.specs.Cheapest.{task}
use Rattle.walks.specs.Cheapest.{Task as WalksTask}
use Rattle.routing.specs.declared.task.Task.{Task}

-- the task, with what its kind of cost and its rule mean
abbrev pub asked : {K R C : Type 0} → (K → Kind C) → (R → Rule) → Task K R → WalksTask C
asked meaning table t = task (meaning t.kind.now) (table t.rule.now) t.runs.now t.home
