-- What a hand-over rule is.
use Rattle.std.specs.Prelude.{◌≡◌, ℕ, ◌<◌, Bool, false, ◌&&◌, Some, None, Option, nat_lt}
use Rattle.track.specs.Sizes.{points, winches}

-- The meaning of a rule: from the point, the arriving winch and the leaving winch to a penalty, or to None where the joint is barred.
abbrev pub Rule : Type 0
Rule = (point arriving leaving : ℕ) → Option ℕ

-- the setting that means barred; every penalty is below it
abbrev pub barred : ℕ
barred = 65535

-- a numbered point and two numbered winches
abbrev pub numbered : (point arriving leaving : ℕ) → Bool
numbered point arriving leaving = nat_lt point points && (nat_lt arriving winches && nat_lt leaving winches)

pub record SoundRule (t : Rule) : Type 0 where
  -- outside the numbered points and winches every joint is barred
  pub outside : (point arriving leaving : ℕ) → numbered point arriving leaving ≡ false → t point arriving leaving ≡ None
  -- a penalty is at most 65,534
  pub small : (point arriving leaving penalty : ℕ) → t point arriving leaving ≡ Some penalty → penalty < barred
