-- Walks over the runs of a map, which of them are legal, and what they cost. A walk is a list of run numbers, of any length.
use Rattle.std.specs.Prelude.{◌≡◌, ℕ, Bool, true, false, not, List, [], ◌∷◌, Some, None, Option, ◌==◌, ◌≢◌, slice_index_or}
use Rattle.track.specs.declared.run.Run.{Run}
use Rattle.walks.specs.Kinds.{Kind}
use Rattle.walks.specs.Rules.{Rule}

-- a number that was not laid stands for a struck run, so that no walk has it
abbrev pub not_laid : Run
not_laid = record { tail = 0; head = 0; winch = 0; time = 0; strain = 0; struck = true }

abbrev pub run_at : List Run → ℕ → Run
run_at m r = slice_index_or m r not_laid

-- the runs lead from the point a to the point b, each from the head of the one before, and none of them is struck
abbrev pub Walk : List Run → (a : ℕ) → List ℕ → (b : ℕ) → Type 0
Walk m a [] b = a ≡ b
Walk m a (r ∷ w) b = ((run_at m r).struck ≡ false) × ((run_at m r).tail ≡ a) × Walk m (run_at m r).head w b

-- what the rule answers at the joint of two runs, the second of which follows the first
abbrev pub joint : Rule → Run → Run → Option ℕ
joint t x y = t x.head x.winch y.winch

-- no joint of the walk is barred
abbrev pub Legal : Rule → List Run → List ℕ → Type 0
Legal t m [] = Unit {0}
Legal t m (r ∷ []) = Unit {0}
Legal t m (q ∷ (r ∷ w)) = (penalty : ℕ) × (joint t (run_at m q) (run_at m r) ≡ Some penalty) × Legal t m (r ∷ w)

-- the penalty of a joint; at a barred one it does not matter, since no legal walk has it
abbrev pub penalty_of : Option ℕ → ℕ
penalty_of None = 0
penalty_of (Some p) = p

-- whether the winches of two runs differ
abbrev pub differ : Run → Run → Bool
differ x y = not (x.winch == y.winch)

-- one step along a run
abbrev pub along : {C : Type 0} → Kind C → C → Run → C
along k c x = k.along c x.time x.strain

-- one step over the joint from x to y, then one along y
abbrev pub onto : {C : Type 0} → Kind C → Rule → C → Run → Run → C
onto k t c x y = along k (k.over c (penalty_of (joint t x y)) (differ x y)) y

-- the cost once the runs of the list follow the run q, which was reached at cost c
abbrev pub onward : {C : Type 0} → Kind C → Rule → List Run → C → (q : ℕ) → List ℕ → C
onward k t m c q [] = c
onward k t m c q (r ∷ w) = onward k t m (onto k t c (run_at m q) (run_at m r)) r w

-- the empty walk costs the start, the first run is one step along
abbrev pub cost : {C : Type 0} → Kind C → Rule → List Run → List ℕ → C
cost k t m [] = k.start
cost k t m (r ∷ w) = onward k t m (along k k.start (run_at m r)) r w

-- the number r does not stand in the list
abbrev pub Missing : ℕ → List ℕ → Type 0
Missing r [] = Unit {0}
Missing r (q ∷ w) = (r ≢ q) × Missing r w

-- the walk repeats no run
abbrev pub NoRepeat : List ℕ → Type 0
NoRepeat [] = Unit {0}
NoRepeat (r ∷ w) = Missing r w × NoRepeat w
