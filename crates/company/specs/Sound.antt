-- A sound rule stays sound when a winch is kept to itself.
use Rattle.std.specs.Prelude.{◌≡◌, ℕ, ◌<◌, Bool, true, false, cond, Some, None, Option, refl}
use mathlib.Core.Path.{subst}
use Rattle.walks.specs.Rules.{Rule, SoundRule, barred}
use Rattle.company.specs.Own.{isolated}

-- a rule that answers as t or bars
cut : (b : Bool) (o : Option ℕ) (P : Option ℕ → Type 0) → P None → P o → P (cond b None o)
cut true o P none here = none
cut false o P none here = here

-- tells a barred joint from one with a penalty
Bars : Option ℕ → Type 0
Bars None = Unit {0}
Bars (Some n) = ⊥

never : {P : Type 0} (n : ℕ) → None ≡ Some n → P
unfolding Bars
never n e = absurd (subst Bars e tt)

pub isolated_sound : (t : Rule) (winch : ℕ) → SoundRule t → SoundRule (isolated t winch)
isolated_sound t winch sound = record {
  outside = λ p a l out. cut _ (t p a l) (λ o. o ≡ None) refl (sound.outside p a l out);
  small = λ p a l n. cut _ (t p a l) (λ o. o ≡ Some n → n < barred) (never n) (sound.small p a l n);
}
