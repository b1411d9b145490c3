-- The two moves that make a walk, worked out: for code that takes them. No definition of a walk or of its cost rests on these.
use Rattle.std.specs.Prelude.{ℕ, cond, not, ◌&&◌, Some, None, Option, ◌==◌}
use Rattle.std.specs.Option.{option_map}
use Rattle.track.specs.declared.run.Run.{Run}
use Rattle.walks.specs.Kinds.{Kind}
use Rattle.walks.specs.Rules.{Rule}
use Rattle.walks.specs.Walks.{joint, differ, along}

-- the cost of the walk of the one run x, if it is a walk from the home
abbrev pub begin_cost : {C : Type 0} → Kind C → (home : ℕ) → Run → Option C
begin_cost k home x = cond (not x.struck && x.tail == home) (Some (along k k.start x)) None

-- what the cost c of a walk that ends with x becomes once y follows, if it may
abbrev pub follow_cost : {C : Type 0} → Kind C → Rule → (x y : Run) → C → Option C
follow_cost k t x y c =
    cond (not y.struck && y.tail == x.head) (option_map (λ penalty. along k (k.over c penalty (differ x y)) y) (joint t x y)) None
