-- The three hand-over rules, by their settings, and what a setting call answers and leaves.
use Rattle.std.specs.Prelude.{◌≡◌, ℕ, Bool, cond, ◌&&◌, List, [], ◌∷◌, Some, None, Option, ◌==◌, nat_le, nat_lt, slice_index, slice_index_or, slice_set}
use Rattle.track.specs.Sizes.{points, winches}
use Rattle.track.specs.Answers.{Answer, gave, check, unless, if_gave}
use Rattle.walks.specs.Rules.{Rule, barred, numbered}

-- what a setting says: barred, or a penalty
abbrev pub said : (setting : ℕ) → Option ℕ
said setting = cond (nat_lt setting barred) (Some setting) None

-- The rule whose settings are these. At the same winch twice the penalty is 0, whatever the settings.
abbrev pub rule_of : (setting : ℕ → ℕ → ℕ → ℕ) → Rule
rule_of setting point arriving leaving =
    cond (numbered point arriving leaving) (cond (arriving == leaving) (Some 0) (said (setting point arriving leaving))) None

-- one setting for all joints
abbrev pub flat_rule : ℕ → Rule
flat_rule setting = rule_of (λ point arriving leaving. setting)

-- one for each point
abbrev pub point_rule : List ℕ → Rule
point_rule settings = rule_of (λ point arriving leaving. slice_index settings point)

-- one for each ordered pair of winches: a row for each arriving winch, with a place for each leaving winch
abbrev pub pair_rule : List (List ℕ) → Rule
pair_rule settings = rule_of (λ point arriving leaving. slice_index (slice_index_or settings arriving []) leaving)

abbrev pub point_answer : (point : ℕ) → Answer (Unit {0})
point_answer point = unless (check (nat_le points point) 1 ∷ []) (gave tt)

abbrev pub pair_answer : (arriving leaving : ℕ) → Answer (Unit {0})
pair_answer arriving leaving =
    unless
    (check (nat_le winches arriving) 3
    ∷ check (nat_le winches leaving) 3
    ∷ check (arriving == leaving) 12
    ∷ [])
    (gave tt)

-- the settings that a call leaves; a refused call leaves them as they were
abbrev pub point_after : List ℕ → (point setting : ℕ) → List ℕ
point_after settings point setting = if_gave (point_answer point) (slice_set settings point setting) settings

abbrev pub pair_after : List (List ℕ) → (arriving leaving setting : ℕ) → List (List ℕ)
pair_after settings arriving leaving setting =
    if_gave (pair_answer arriving leaving) (slice_set settings arriving (slice_set (slice_index_or settings arriving []) leaving setting)) settings

-- Only the joints in question moved: at these the rule t' goes by the new setting, at every other it answers as t did.
abbrev pub MovedAt : (here : ℕ → ℕ → ℕ → Bool) → (setting : ℕ) → (t t' : Rule) → Type 0
MovedAt here setting t t' =
    (point arriving leaving : ℕ)
    → t' point arriving leaving ≡ cond (here point arriving leaving) (flat_rule setting point arriving leaving) (t point arriving leaving)

-- the joints at a point, and those of a pair
abbrev pub at_point : ℕ → ℕ → ℕ → ℕ → Bool
at_point p point arriving leaving = point == p

abbrev pub at_pair : (a l : ℕ) → ℕ → ℕ → ℕ → Bool
at_pair a l point arriving leaving = arriving == a && leaving == l
