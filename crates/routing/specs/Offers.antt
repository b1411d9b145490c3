-- What runs offer the points that they lead to. For inner functions; no public contract speaks of it.
use Rattle.std.specs.Prelude.{◌≡◌, ℕ, ◌<◌, List, Some, None, Option}
use Rattle.track.specs.declared.run.Run.{Run}
use Rattle.walks.specs.Kinds.{Kind, Le}
use Rattle.walks.specs.Walks.{run_at}
use Rattle.routing.specs.Tables.{Place, place, reached}

-- c is above no cost that one of the first n runs has in the table t and offers the point v
abbrev pub LowestInto : {C : Type 0} → Kind C → List Run → List (Place C) → (n v : ℕ) → C → Type 0
LowestInto {C} k m t n v c = (r : ℕ) (d : C) (b : Option ℕ) → r < n → (run_at m r).head ≡ v → place t r ≡ reached d b → Le k c d

-- of the first n runs, r offers the point v the lowest cost, which is c
pub record BestRun {C : Type 0} (k : Kind C) (m : List Run) (t : List (Place C)) (n v : ℕ) (c : C) (r : ℕ) : Type 0 where
  pub among : r < n
  pub into : (run_at m r).head ≡ v
  pub label : (b : Option ℕ) × (place t r ≡ reached c b)
  pub lowest : LowestInto k m t n v c

-- the lowest cost that the first n runs offer the point v is c, and this run offers it
abbrev pub BestBy : {C : Type 0} → Kind C → List Run → List (Place C) → (n v : ℕ) → C → Option ℕ → Type 0
BestBy k m t n v c None = ⊥
BestBy k m t n v c (Some r) = BestRun k m t n v c r

-- the best place that the first n runs offer the point v
abbrev pub BestInto : {C : Type 0} → Kind C → List Run → List (Place C) → (n v : ℕ) → Place C → Type 0
BestInto k m t n v None = (r : ℕ) → r < n → (run_at m r).head ≡ v → place t r ≡ None
BestInto k m t n v (Some p) = BestBy k m t n v p.cost p.run
