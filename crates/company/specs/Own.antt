-- A rule and a kind of the company's own.
use Rattle.std.specs.Prelude.{ℕ, ◌+◌, ◌*◌, min, cond, not, ◌&&◌, ◌||◌, None, ◌==◌, nat_le}
use Rattle.walks.specs.Kinds.{Kind}
use Rattle.walks.specs.Rules.{Rule}

-- The rule t with one winch kept to itself: it takes over nothing and gives up nothing.
abbrev pub isolated : Rule → (winch : ℕ) → Rule
isolated t winch point arriving leaving =
    cond (not (arriving == leaving) && (arriving == winch || leaving == winch)) None (t point arriving leaving)

-- What a walk wears the ropes: each run's time times its strain, added up, stopped at the largest number of 64 bits.
abbrev pub wear_kind : Kind ℕ
wear_kind = record {
  start = 0;
  at_most = nat_le;
  along = λ c time strain. min (c + time * strain) 18446744073709551615;
  over = λ c penalty differ. c;
  fits = λ c. nat_le c 18446744073709551615;
}
