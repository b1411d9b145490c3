-- The steps of the search, for the contracts of its inner functions. No public contract speaks of them.
use Rattle.std.specs.Prelude.{◌≡◌, ℕ, ◌<◌, Bool, true, false, cond, not, List, Some, None, Option, ◌≢◌, slice_index_or}
use Rattle.track.specs.declared.run.Run.{Run}
use Rattle.walks.specs.Kinds.{Kind}
use Rattle.walks.specs.Rules.{Rule}
use Rattle.walks.specs.Walks.{run_at}
use Rattle.walks.specs.Moves.{begin_cost, follow_cost}
use Rattle.routing.specs.Tables.{Place, place, reached}

-- the cost that a place holds: the label of its run
abbrev pub cost_in : {C : Type 0} → Place C → Option C
cost_in None = None
cost_in (Some p) = Some p.cost

abbrev pub label : {C : Type 0} → List (Place C) → ℕ → Option C
label t r = cost_in (place t r)

-- whether the run r is taken
abbrev pub taken_at : List Bool → ℕ → Bool
taken_at d r = slice_index_or d r false

-- a place before any run is taken, for a run that begins a walk at this cost, if it does
abbrev pub begun : {C : Type 0} → Option C → Place C
begun None = None
begun (Some c) = reached c None

abbrev pub Begun : {C : Type 0} → Kind C → (home : ℕ) → List Run → List (Place C) → Type 0
Begun k home m t = (r : ℕ) → place t r ≡ begun (begin_cost k home (run_at m r))

-- whether a cost is below the other; where there is no other, every cost is
abbrev pub lower : {C : Type 0} → (C → C → Bool) → C → (other : Option C) → Bool
lower at_most c None = true
lower at_most c (Some other) = not (at_most other c)

-- a place once the run u offers this cost, if it does
abbrev pub improved : {C : Type 0} → (C → C → Bool) → (u : ℕ) → Option C → Place C → Place C
improved at_most u None p = p
improved at_most u (Some c) p = cond (lower at_most c (cost_in p)) (reached c (Some u)) p

-- place r of the table t once the run u, reached at cost c, is taken; d marks the runs taken
abbrev pub relaxed : {C : Type 0} → Kind C → Rule → List Run → List Bool → (u : ℕ) → C → List (Place C) → (r : ℕ) → Place C
relaxed k rule m d u c t r = cond (taken_at d r) (place t r) (improved k.at_most u (follow_cost k rule (run_at m u) (run_at m r) c) (place t r))

abbrev pub Relaxed : {C : Type 0} → Kind C → Rule → List Run → List Bool → (u : ℕ) → C → (t t' : List (Place C)) → Type 0
Relaxed k rule m d u c t t' = (r : ℕ) → place t' r ≡ relaxed k rule m d u c t r

-- below n no labelled run waits
abbrev pub NoneWaits : {C : Type 0} → List (Place C) → List Bool → (n : ℕ) → Type 0
NoneWaits {C} t d n = (r : ℕ) (l : C) → r < n → taken_at d r ≡ false → label t r ≢ Some l

-- the run u waits, labelled c, and below n no run waits with a lower label
pub record Lowest {C : Type 0} (at_most : C → C → Bool) (t : List (Place C)) (d : List Bool) (n u : ℕ) (c : C) : Type 0 where
  pub waits : taken_at d u ≡ false
  pub labelled : label t u ≡ Some c
  pub lowest : (r : ℕ) (l : C) → r < n → taken_at d r ≡ false → label t r ≡ Some l → at_most c l ≡ true
