-- Two remarks on the worked cases.
use Rattle.std.specs.Prelude.{◌≡◌, ℕ, List, [], ◌∷◌, ◌++◌, count_by, nat_eq}
use Rattle.track.specs.declared.run.Run.{Run}
use Rattle.track.specs.Calls.{map_after}
use Rattle.walks.specs.Walks.{run_at}
use Rattle.rehearsal.specs.Cases.{detour, round, straight, there_and_back}

-- the list w begins with v
abbrev pub BeginsWith : List ℕ → List ℕ → Type 0
BeginsWith w v = (rest : List ℕ) × (w ≡ v ++ rest)

-- the cheapest walk over W to point 1 does not begin the cheapest walk to point 3, which passes point 1
abbrev pub NotTheBeginning : Type 0
NotTheBeginning = BeginsWith round straight → ⊥

-- the points that a walk from the point a passes, the first and the last too
abbrev pub passed : List Run → (a : ℕ) → List ℕ → List ℕ
passed m a [] = a ∷ []
passed m a (r ∷ w) = a ∷ passed m (run_at m r).head w

-- how often a number stands in a list
abbrev pub occurs : ℕ → List ℕ → ℕ
occurs n = count_by (nat_eq n)

-- the cheapest walk over the detour passes point 1 twice
abbrev pub PassesTwice : Type 0
PassesTwice = occurs 1 (passed (map_after detour).runs 0 there_and_back) ≡ 2
