-- What a work table and a board are to hold, by the legal walks from the home alone.
use Rattle.std.specs.Prelude.{◌≡◌, ℕ, ◌<◌, List, [], ◌∷◌, length, Some, None, Option, ◌≢◌, slice_index_or}
use Rattle.track.specs.Sizes.{points}
use Rattle.walks.specs.Walks.{run_at, NoRepeat}
use Rattle.walks.specs.Cheapest.{Task, LeadsTo, EndsWith, NoWalk, Cheapest}
use Rattle.routing.specs.declared.place.Reached.{Reached}

-- a place of a table or of a board, with costs of type C: absent or reached
abbrev pub Place : Type 0 → Type 0
Place C = Option (Reached C)

-- reached at the cost c, by the run b
abbrev pub reached : {C : Type 0} → C → Option ℕ → Place C
reached c b = Some (record { cost = c; run = b })

abbrev pub place : {C : Type 0} → List (Place C) → ℕ → Place C
place t r = slice_index_or t r None

-- Followed back, the table gives this list: each of its runs has the one in front of it as its run before, and the first has b.
abbrev pub Linked : {C : Type 0} → List (Place C) → (b : Option ℕ) → List ℕ → Type 0
Linked t b [] = Unit {0}
Linked {C} t b (r ∷ w) = (c : C) × (place t r ≡ reached c b) × Linked t (Some r) w

-- Place r of the table t. Absent: no legal walk ends with r. Else the least cost of such walks,
-- and followed back from r the runs before give such a walk, of that cost, that repeats no run.
abbrev pub TablePlace : {C : Type 0} → Task C → List (Place C) → (r : ℕ) → Place C → Type 0
TablePlace k t r None = NoWalk (EndsWith k r)
TablePlace k t r (Some p) = (w : List ℕ) × Cheapest k (EndsWith k r) w p.cost × NoRepeat w × Linked t None w

-- the last run on the board for the point v, which is reached at cost c
abbrev pub LastRun : {C : Type 0} → Task C → List (Place C) → (v : ℕ) → C → Option ℕ → Type 0
LastRun k t v c None = (v ≡ k.home) × (c ≡ k.kind.start)
LastRun k t v c (Some r) = (v ≢ k.home) × ((run_at k.runs r).head ≡ v) × ((b : Option ℕ) × (place t r ≡ reached c b))

-- Place v of a board beside the table t. Absent: no legal walk ends at v. Else the least cost of such walks, and a last run.
abbrev pub BoardPlace : {C : Type 0} → Task C → List (Place C) → (v : ℕ) → Place C → Type 0
BoardPlace k t v None = NoWalk (LeadsTo k v)
BoardPlace k t v (Some p) = ((w : List ℕ) × Cheapest k (LeadsTo k v) w p.cost) × LastRun k t v p.cost p.run

-- a table with a place for each run laid, and a board with a place for each point
abbrev pub TableHolds : {C : Type 0} → Task C → List (Place C) → Type 0
TableHolds k t = (r : ℕ) → r < length k.runs → TablePlace k t r (place t r)

abbrev pub BoardHolds : {C : Type 0} → Task C → List (Place C) → List (Place C) → Type 0
BoardHolds k t b = (v : ℕ) → v < points → BoardPlace k t v (place b v)
