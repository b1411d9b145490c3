use Rattle.std.proofs.Common.{◌≡◌, take}
use Rattle.bench_rig.specs.Given.{settings_after}
use Rattle.bench_rig.proofs.given.set_all.Given as goal

abbrev pub invariant-loop-given : goal.invariant-loop-given
invariant-loop-given l = l.rule.settings ≡ settings_after (take l.given-index l.settings)
