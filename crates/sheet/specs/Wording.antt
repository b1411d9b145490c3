-- What is printed of what was done or refused, of a run and of a route.
use Rattle.std.specs.Prelude.{ℕ, ◌/◌, ◌%◌, cond, List, [], ◌++◌, length, Some, None, codes, decimal, Option, ◌==◌}
use Rattle.track.specs.declared.run.Run.{Run}
use Rattle.track.specs.Refusals as map_refusals
use Rattle.walks.specs.Refusals as rule_refusals
use Rattle.routing.specs.Refusals as search_refusals
use Rattle.routing.specs.declared.refusal.SearchRefusal.TheVariants.{NoWay}
use Rattle.sheet.specs.declared.outcomes.Done.{Done}
use Rattle.sheet.specs.declared.outcomes.Done.TheVariants.{Silence, Laid, Struck, Retimed, Named, InForce, Routed}
use Rattle.sheet.specs.declared.outcomes.Refused.{Refused}
use Rattle.sheet.specs.declared.outcomes.Refused.TheVariants.{Unreadable, Call, Rule, Search}
use Rattle.sheet.specs.declared.routes.HandOver.{HandOver}
use Rattle.tape.specs.declared.command.KindName.{KindName}
use Rattle.tape.specs.declared.command.KindName.TheVariants.{Time, Strain, HandOvers}
use Rattle.tape.specs.Letters.{rule_word}
use Rattle.walks.specs.Costs.{change}
use Rattle.walks.specs.Walks.{differ}

-- tenths of a second, in seconds with one decimal
abbrev pub seconds : ℕ → List ℕ
seconds n = decimal (n / 10) ++ (codes "." ++ decimal (n % 10))

abbrev pub percent : ℕ → List ℕ
percent n = decimal n ++ codes " %"

-- tenths of a second, in seconds and as they are
abbrev pub tenths : ℕ → List ℕ
tenths n = seconds n ++ (codes " s (" ++ (decimal n ++ codes " tenths)"))

-- the end of a word for several
abbrev pub plural : ℕ → List ℕ
plural n = cond (n == 1) [] (codes "s")

-- a cost under hand-overs counts each of them as `change`, and the time besides
abbrev pub cost_words : KindName → ℕ → List ℕ
cost_words Time c = tenths c
cost_words Strain c = percent c
cost_words HandOvers c = decimal (c / change) ++ (codes " hand-over" ++ (plural (c / change) ++ (codes ", " ++ tenths (c % change))))

-- a route by its cost, and how many runs it has
abbrev pub route_words : KindName → (cost count : ℕ) → List ℕ
route_words kind cost count = cost_words kind cost ++ (codes " by " ++ (decimal count ++ (codes " run" ++ plural count)))

-- a refusal by its number, with its reason
abbrev pub numbered : ℕ → List ℕ → List ℕ
numbered n reason = codes "refused " ++ (decimal n ++ (codes ": " ++ reason))

abbrev pub done_words : Done → List ℕ
done_words Silence = []
done_words (Laid run) = codes "run " ++ decimal run
done_words Struck = codes "struck"
done_words Retimed = codes "retimed"
done_words Named = codes "named"
done_words (InForce rule) = codes "rule " ++ (rule_word rule ++ codes " in force")
done_words (Routed kind r) = route_words kind r.cost (length r.runs.items)

abbrev pub refused_words : Refused → List ℕ
refused_words Unreadable = codes "cannot be read"
refused_words (Call e) = numbered (map_refusals.number e) (map_refusals.reason e)
refused_words (Rule e) = numbered (rule_refusals.number e) (rule_refusals.reason e)
-- that there is no way is an answer, and goes by no number
refused_words (Search NoWay) = search_refusals.reason NoWay
refused_words (Search e) = numbered (search_refusals.number e) (search_refusals.reason e)

-- a run of the map, by its number
abbrev pub run_line : ℕ → Run → List ℕ
run_line number r =
    codes "run "
    ++ (decimal number
    ++ (codes ": "
    ++ (decimal r.tail
    ++ (codes " to "
    ++ (decimal r.head
    ++ (codes ", winch "
    ++ (decimal r.winch
    ++ (codes ", "
    ++ (seconds r.time
    ++ (codes " s, strain "
    ++ percent r.strain))))))))))

-- a run of a route
abbrev pub hop_line : ℕ → Run → List ℕ
hop_line number r =
    codes "  from "
    ++ (decimal r.tail
    ++ (codes " by run "
    ++ (decimal number
    ++ (codes " on winch "
    ++ (decimal r.winch
    ++ (codes " to "
    ++ decimal r.head))))))

abbrev pub hand_over_line : HandOver → List ℕ
hand_over_line h =
    codes "  hand over from winch "
    ++ (decimal h.arriving
    ++ (codes " to winch "
    ++ (decimal h.leaving
    ++ (codes " at point "
    ++ decimal h.point))))

-- the hand-over between a run and the one that follows it, where their winches differ
abbrev pub hand_over : Run → Run → Option HandOver
hand_over x y = cond (differ x y) (Some (record { point = x.head; arriving = x.winch; leaving = y.winch })) None
