-- A place is absent or reached, and not both; a place that is reached has one cost and stands in the table.
use Rattle.std.proofs.Common.{◌∙◌, ap, Some, sym, None, ◌≡◌, ℕ, ◌<◌, ◌⊎◌, List, length, Option, refl, inl, inr}
use Rattle.std.proofs.lemmas.List.{get_or_past}
use Rattle.std.proofs.lemmas.Option.{same_Some}
use Rattle.std.proofs.lemmas.Bool.{cases_lt}
use Rattle.routing.specs.Tables.{Place, place, reached}
use Rattle.routing.specs.Steps.{cost_in}

module _ {C : Type 0} where
  pub cases_place : (p : Place C) → (p ≡ None) ⊎ ((c : C) × (b : Option ℕ) × (p ≡ reached c b))
  cases_place None = inl refl
  cases_place (Some p) = inr (p.cost, p.run, refl)

  pub absent_reached : (p : Place C) (c : C) (b : Option ℕ) → p ≡ None → p ≡ reached c b → ⊥
  absent_reached p c b h e = cc

  pub same_cost : (p : Place C) (c d : C) (b e : Option ℕ) → p ≡ reached c b → p ≡ reached d e → c ≡ d
  same_cost p c d b e h i = same_Some c d (sym (ap cost_in h) ∙ ap cost_in i)

  pub in_table : (t : List (Place C)) (r : ℕ) (c : C) (b : Option ℕ) → place t r ≡ reached c b → r < length t
  in_table t r c b is = elim (cases_lt r (length t)) [
    | inl lt ↦ lt
    | inr ge ↦ absurd (absent_reached (place t r) c b (get_or_past t r None ge) is)
  ]
