-- What is asked, and what cheapest means.
use Rattle.std.specs.Prelude.{◌≡◌, ℕ, List, [], ◌∷◌, Some, None, Option}
use Rattle.track.specs.declared.run.Run.{Run}
use Rattle.walks.specs.Kinds.{Kind, Le}
use Rattle.walks.specs.Rules.{Rule}
use Rattle.walks.specs.Walks.{Walk, Legal, cost, run_at}

-- a kind of cost, a rule, the runs of a map, and the home
pub record Task (C : Type 0) : Type 0 where
  pub kind : Kind C
  pub rule : Rule
  pub runs : List Run
  pub home : ℕ

abbrev pub task : {C : Type 0} → Kind C → Rule → List Run → ℕ → Task C
task k t m home = record { kind = k; rule = t; runs = m; home = home }

-- what a walk costs
abbrev pub price : {C : Type 0} → Task C → List ℕ → C
price k w = cost k.kind k.rule k.runs w

-- the list is a legal walk from the home to the mark
abbrev pub LeadsTo : {C : Type 0} → Task C → (mark : ℕ) → List ℕ → Type 0
LeadsTo k mark w = Walk k.runs k.home w mark × Legal k.rule k.runs w

-- the last run of a list
abbrev pub last : List ℕ → Option ℕ
last [] = None
last (r ∷ []) = Some r
last (q ∷ (r ∷ w)) = last (r ∷ w)

-- the list is a legal walk from the home that ends with the run r
abbrev pub EndsWith : {C : Type 0} → Task C → (r : ℕ) → List ℕ → Type 0
EndsWith k r w = (last w ≡ Some r) × LeadsTo k (run_at k.runs r).head w

-- there is no such walk
abbrev pub NoWalk : (List ℕ → Type 0) → Type 0
NoWalk Among = (w : List ℕ) → Among w → ⊥

-- every such walk costs at least c
abbrev pub AtLeast : {C : Type 0} → Task C → (List ℕ → Type 0) → C → Type 0
AtLeast k Among c = (w : List ℕ) → Among w → Le k.kind c (price k w)

-- w is a cheapest of such walks, and c the least cost
pub record Cheapest {C : Type 0} (k : Task C) (Among : List ℕ → Type 0) (w : List ℕ) (c : C) : Type 0 where
  pub among : Among w
  pub costs : price k w ≡ c
  pub least : AtLeast k Among c
