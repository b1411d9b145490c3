-- What a given walk costs, if it is one.
use Rattle.std.specs.Prelude.{◌≡◌, ℕ, List, Some, None, Option}
use Rattle.walks.specs.Cheapest.{Task, price, LeadsTo}

-- the cost of the legal walk w to the mark, or None where w is no such walk
abbrev pub Priced : {C : Type 0} → Task C → (mark : ℕ) → List ℕ → Option C → Type 0
Priced k mark w (Some c) = LeadsTo k mark w × (price k w ≡ c)
Priced k mark w None = LeadsTo k mark w → ⊥
