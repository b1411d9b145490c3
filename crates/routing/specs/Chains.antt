-- The runs before, followed back from a run. For inner functions; no public contract speaks of it.
use Rattle.std.specs.Prelude.{◌≡◌, ℕ, List, Some, None, Option}
use Rattle.walks.specs.Walks.{NoRepeat}
use Rattle.walks.specs.Cheapest.{last}
use Rattle.routing.specs.Tables.{Place, Linked}

-- the run before, of a run with this place
abbrev pub before : {C : Type 0} → Place C → Option ℕ
before None = None
before (Some p) = p.run

-- followed back from the run `end`, the table gives the walk w, which repeats no run
pub record Chain {C : Type 0} (t : List (Place C)) (end : ℕ) (w : List ℕ) : Type 0 where
  pub ends : last w ≡ Some end
  pub linked : Linked t None w
  pub once : NoRepeat w
