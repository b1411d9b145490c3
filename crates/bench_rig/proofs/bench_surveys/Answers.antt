use Rattle.std.proofs.Common.{ℕ, true, List, refl, ◌∙◌, subst, arith}
use Rattle.std.proofs.lemmas.Bool.{both_ways}
use Rattle.std.proofs.lemmas.Bool.Decides.{nat_tests}
use Rattle.track.specs.Map.{Map}
use Rattle.track.specs.Calls.{map_after}
use Rattle.track.proofs.History.{left_is}
use Rattle.walks.specs.Cheapest.{task}
use Rattle.walks.specs.Costs.{time_kind}
use Rattle.walks.specs.Settings.{pair_rule}
use Rattle.bench_rig.specs.Given.{lays}
use Rattle.bench_rig.specs.Costs.{RowsLeft}
use Rattle.bench_rig.proofs.bench_surveys.Goals as goal

pub returns : goal.returns
returns c =
    let left : List (List ℕ) → Map → Type 0 = λ settings m. RowsLeft (λ home. task time_kind (pair_rule settings) m.runs home) c.args.homes c.args.costs.now c.survey_homes.new.costs in
    let laid = c.open-rig.ensures.done ∙ left_is (lays c.args.runs.now) _ c.lay_all.ensures in
    record {
      answer = grind (arith, nat_tests);
      surveyed = λ e. subst (λ (settings : List (List ℕ)). left settings (map_after (lays c.args.runs.now))) c.set_all-rule.ensures (subst (left c.set_all-rule.result.settings) laid c.survey_homes.ensures);
      refused = λ e. absurd (both_ways true e refl);
    }
