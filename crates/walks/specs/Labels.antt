-- Labels that bound every legal walk from below, however they were found.
use Rattle.std.specs.Prelude.{◌≡◌, ℕ, List, [], ◌∷◌, Some, Option}
use Rattle.track.specs.declared.run.Run.{Run}
use Rattle.walks.specs.Kinds.{Kind, Le}
use Rattle.walks.specs.Rules.{Rule}
use Rattle.walks.specs.Walks.{Walk, Legal, onward, run_at}
use Rattle.walks.specs.Cheapest.{Task, task, price, EndsWith}

-- labels: a cost for some of the runs
abbrev pub Labels : Type 0 → Type 0
Labels C = ℕ → Option C

-- the run r has a label, and it is not above c
abbrev pub Labelled : {C : Type 0} → Kind C → Labels C → (r : ℕ) → C → Type 0
Labelled {C} k L r c = (l : C) × (L r ≡ Some l) × Le k l c

-- the run r may follow the run q in a legal walk
abbrev pub Follows : {C : Type 0} → Task C → (q r : ℕ) → Type 0
Follows k q r = Walk k.runs (run_at k.runs q).head (r ∷ []) (run_at k.runs r).head × Legal k.rule k.runs (q ∷ r ∷ [])

-- every run that is a legal walk from the home has a label not above the cost of that walk
abbrev pub Started : {C : Type 0} → Task C → Labels C → Type 0
Started k L = (r : ℕ) → EndsWith k r (r ∷ []) → Labelled k.kind L r (price k (r ∷ []))

-- where q has a label and r may follow q, r has a label not above the cost once r follows at q's label
abbrev pub Closed : {C : Type 0} → Task C → Labels C → Type 0
Closed {C} k L = (q r : ℕ) (c : C) → L q ≡ Some c → Follows k q r → Labelled k.kind L r (onward k.kind k.rule k.runs c q (r ∷ []))

-- Under the kind k, whatever the rule, the runs and the home: labels that are started and closed bound every legal walk.
abbrev pub LabelsBound : {C : Type 0} → Kind C → Type 0
LabelsBound {C} k =
    (rule : Rule) (runs : List Run) (home : ℕ) (L : Labels C)
    → Started (task k rule runs home) L
    → Closed (task k rule runs home) L
    → (r : ℕ) (w : List ℕ) → EndsWith (task k rule runs home) r w → Labelled k L r (price (task k rule runs home) w)
