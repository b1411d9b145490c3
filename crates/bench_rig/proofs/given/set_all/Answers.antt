use Rattle.std.proofs.Common.{get_or, sym, ap, ◌∙◌, arith}
use Rattle.std.proofs.lemmas.List.{take_all}
use Rattle.std.proofs.lemmas.List.Sums.{fold_more}
use Rattle.bench_rig.specs.declared.given.GivenSetting.{GivenSetting}
use Rattle.bench_rig.specs.Given.{once_set, settings_after}
use Rattle.bench_rig.proofs.given.set_all.Goals as goal

pub loop-given-init : goal.loop-given-init
loop-given-init c = c.new-rule.ensures

-- what stands past the end
abbrev none : GivenSetting
none = record { arriving = 0; leaving = 0; setting = 0 }

pub loop-given-preserved : goal.loop-given-preserved
loop-given-preserved c =
    let settings = c.args.settings.now in
    let i = c.loop-given.given-index in
    c.set.ensures.settings ∙ ap (λ rows. once_set rows (get_or settings i none)) c.loop-given.invariant
    ∙ sym (fold_more once_set _ settings i none c.loop-given-test.true)

pub returns : goal.returns
returns c = c.loop-given.invariant ∙ ap settings_after (take_all _ c.args.settings.now (omega arith))
