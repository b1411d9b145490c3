use mathlib.Core.Path.{refl, subst}
use Rattle.track.specs.declared.rig.Rig.{Rig}
use Rattle.track.specs.Answers.{told}
use Rattle.track.specs.Refusals.{number}
use Rattle.track.specs.Map.{Map}
use Rattle.track.specs.Calls.{map_of, LayDone}
use Rattle.track.specs.History.{State, get_in, show}
use Rattle.history.proofs.rehearse.rehearse.Goals as goal

abbrev closed : {S : Type 0} → Rig S → State
closed l = get_in (map_of l)

abbrev opened : {S : Type 0} → Rig S → State
opened l = show (map_of l)

pub returns : goal.returns
returns g c =
    let first = subst (λ (m : Map). LayDone m 0 1 0 30 40 (told number c.lay-laid.result) (map_of c.lay-laid.new.self)) c.new-rig.ensures.done c.lay-laid.ensures.done in
    let lawful = g.met.K.CostKind.lawful c.args.kind.now in
    let other = g.met.J.CostKind.lawful c.args.other.now in
    let sound = g.met.R.HandoverRule.sound c.args.rule.now in (
      closed c.close.result,
      (
        closed c.lay-laid.new.self,
        (refl, refl, first),
        (
          closed c.lay-looped.new.self,
          (refl, refl, c.lay-looped.ensures.done),
          (
            closed c.lay-joined.new.self,
            (refl, refl, c.lay-joined.ensures.done),
            (
              opened c.open-show.result,
              (refl, refl, c.open-show.ensures.done),
              (
                opened c.open-show.result,
                (refl, refl, lawful, sound, c.route-routed.ensures.done),
                (
                  opened c.open-show.result,
                  (refl, refl, other, sound, c.survey-surveyed.ensures.done),
                  (
                    closed c.close-half.result,
                    (refl, refl, c.close-half.ensures.done),
                    (
                      closed c.strike-struck.new.self,
                      (refl, refl, c.strike-struck.ensures.done),
                      (
                        opened c.open-second.result,
                        (refl, refl, c.open-second.ensures.done),
                        (
                          opened c.open-second.result,
                          (refl, refl, lawful, sound, c.route-again.ensures.done),
                          (closed c.close.result, (refl, refl, c.close.ensures.done), refl),
                        ),
                      ),
                    ),
                  ),
                ),
              ),
            ),
          ),
        ),
      ),
    )
