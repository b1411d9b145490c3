-- What a route over a map answers and leaves.
use Rattle.std.specs.Prelude.{◌≡◌, ℕ, List, [], ◌∷◌, ◌++◌, length, drop, nat_le, nat_lt}
use Rattle.track.specs.Sizes.{points}
use Rattle.track.specs.Answers.{Answer, gave, refused, check, unless}
use Rattle.track.specs.Map.{Map}
use Rattle.walks.specs.Kinds.{Kind}
use Rattle.walks.specs.Rules.{Rule}
use Rattle.walks.specs.Walks.{NoRepeat}
use Rattle.walks.specs.Cheapest.{Task, task, LeadsTo, NoWalk, Cheapest}
use Rattle.routing.specs.Tables.{Place}
use Rattle.routing.specs.Survey.{TableLeft}

-- the refusals that need no search, in their order
abbrev pub route_checks : Map → (home mark places room : ℕ) → Answer (Unit {0})
route_checks m home mark places room =
    unless
    (check (nat_le points home) 1
    ∷ check (nat_le points mark) 1
    ∷ check (nat_lt places (length m.runs)) 8
    ∷ check (nat_lt room (length m.runs)) 9
    ∷ [])
    (gave tt)

-- The answer of a search, and the list that was l and is l': a cheapest legal walk to the mark that repeats no run stands at the list's beginning,
-- the number of its runs and its cost are answered, and the rest is untouched; or 11 where there is no legal walk, and the list is untouched.
abbrev pub Routed : {C : Type 0} → Task C → (mark : ℕ) → (l : List ℕ) → Answer (ℕ × C) → (l' : List ℕ) → Type 0
Routed k mark l (gave x) l' = (w : List ℕ) × Cheapest k (LeadsTo k mark) w x.1 × NoRepeat w × (x.0 ≡ length w) × (l' ≡ w ++ drop (length w) l)
Routed k mark l (refused n) l' = (n ≡ 11) × NoWalk (LeadsTo k mark) × (l' ≡ l)

-- what is left where the checks say this: after a search the table holds what a survey leaves in it
abbrev pub RouteLeft : {C : Type 0} → Answer (Unit {0}) → Task C → (mark : ℕ) → (t : List (Place C)) (l : List ℕ) → Answer (ℕ × C) → (t' : List (Place C)) (l' : List ℕ) → Type 0
RouteLeft (refused n) k mark t l answer t' l' = (answer ≡ refused n) × (t' ≡ t) × (l' ≡ l)
RouteLeft (gave x) k mark t l answer t' l' = TableLeft k t t' × Routed k mark l answer l'

-- What a route promises on the map m: its answer, and what it leaves in the table and in the list.
abbrev pub RouteDone : {C : Type 0} → Kind C → Rule → Map → (home mark : ℕ) → (t : List (Place C)) (l : List ℕ) → Answer (ℕ × C) → (t' : List (Place C)) (l' : List ℕ) → Type 0
RouteDone k rule m home mark t l answer t' l' =
    RouteLeft (route_checks m home mark (length t) (length l)) (task k rule m.runs home) mark t l answer t' l'
