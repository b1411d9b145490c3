-- The costs as C gets them back: a row of points for each home.
use Rattle.std.specs.Prelude.{◌≡◌, ℕ, ◌+◌, ◌*◌, ◌<◌, ◌≤◌, ◌⊎◌, List, Some, None, slice_index}
use Rattle.track.specs.Sizes.{points}
use Rattle.walks.specs.Costs.{time_top}
use Rattle.walks.specs.Cheapest.{Task, LeadsTo, NoWalk, Cheapest}
use Rattle.routing.specs.Tables.{Place}

-- the number of a place; no cost of a walk that repeats no run comes near the largest
abbrev pub cost_number : Place ℕ → ℕ
cost_number None = time_top
cost_number (Some place) = place.cost

-- the number c for the point v: the least cost of the legal walks that end there, or 4,294,967,295 where there is none
abbrev pub SaysCost : Task ℕ → (v c : ℕ) → Type 0
SaysCost k v c = ((w : List ℕ) × Cheapest k (LeadsTo k v) w c) ⊎ (NoWalk (LeadsTo k v) × (c ≡ time_top))

abbrev pub RowHolds : Task ℕ → List ℕ → Type 0
RowHolds k row = (v : ℕ) → v < points → SaysCost k v (slice_index row v)

-- the list that was costs is costs': for each home a row by its task, and later numbers untouched
pub record RowsLeft (k : (home : ℕ) → Task ℕ) (homes : ℕ) (costs costs' : List ℕ) : Type 0 where
  pub rows : (home v : ℕ) → home < homes → v < points → SaysCost (k home) v (slice_index costs' (points * home + v))
  pub rest : (i : ℕ) → points * homes ≤ i → slice_index costs' i ≡ slice_index costs i
