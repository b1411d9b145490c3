-- Lines at their limits, and what they say.
use Rattle.std.specs.Prelude.{◌≡◌, ℕ, List, [], ◌∷◌, map, codes}
use Rattle.tape.specs.declared.command.KindName.TheVariants.{Time, HandOvers}
use Rattle.tape.specs.declared.command.RuleName.TheVariants.{Pair}
use Rattle.track.specs.Map.Call.{Lay, Strike, Retime, Name}
use Rattle.walks.specs.Rules.{barred}
use Rattle.reader.specs.declared.rulings.Ruling.TheVariants.{Choose, SetFlat, SetPair}
use Rattle.reader.specs.Questions.{asked, looked}
use Rattle.reader.specs.Words.{Said, nothing, unreadable, calls, rules, asks, looks, says}

abbrev pub table : List (List ℕ × Said)
table =
    (codes "lay 255 255 255 65535 255", calls (Lay 255 255 255 65535 255))
    ∷ (codes "lay 256 0 0 0 0", unreadable)
    ∷ (codes "lay 0 256 0 0 0", unreadable)
    ∷ (codes "lay 0 0 256 0 0", unreadable)
    ∷ (codes "lay 0 0 0 65536 0", unreadable)
    ∷ (codes "lay 0 0 0 0 256", unreadable)
    ∷ (codes "retime 65535 65535", calls (Retime 65535 65535))
    ∷ (codes "retime 65536 0", unreadable)
    ∷ (codes "retime 0 65536", unreadable)
    ∷ (codes "strike 00065535", calls (Strike 65535))
    ∷ (codes "strike 65536", unreadable)
    ∷ (codes "name 255 ", calls (Name 255 []))
    ∷ (codes "name 255", unreadable)
    ∷ (codes "name 256 ", unreadable)
    ∷ (codes "rule pair", rules (Choose Pair))
    ∷ (codes "rule pair 0 1 12", rules (SetPair 0 1 12))
    ∷ (codes "rule flat 65534", rules (SetFlat 65534))
    ∷ (codes "rule flat 65535", unreadable)
    ∷ (codes "rule flat barred", rules (SetFlat barred))
    ∷ (codes "rule", unreadable)
    ∷ (codes "route t 255 255", asks (asked Time 255 255))
    ∷ (codes "route t 0 256", unreadable)
    ∷ (codes "route x 0 3", unreadable)
    ∷ (codes "survey h 255", looks (looked HandOvers 255))
    ∷ (codes "survey h 0 3", unreadable)
    ∷ (codes "  # survey h 0", nothing)
    ∷ []

abbrev pub LimitsStand : Type 0
LimitsStand = map (λ e. says e.0) table ≡ map (λ e. e.1) table
