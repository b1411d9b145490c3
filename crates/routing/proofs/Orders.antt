-- The order of costs: no cost is above itself, and of two costs one is not above the other.
use Rattle.std.proofs.Common.{◌≡◌, false, inl, inr}
use Rattle.std.proofs.lemmas.Bool.{both_ways}
use Rattle.walks.specs.Kinds.{Kind, Lawful, Le}

module _ {C : Type 0} {k : Kind C} (laws : Lawful k) where
  pub le_refl : (c : C) → Le k c c
  le_refl c = elim (laws.total c c) [ inl h ↦ h | inr h ↦ h ]

  pub le_flip : (a b : C) → k.at_most a b ≡ false → Le k b a
  le_flip a b above = elim (laws.total a b) [ inl le ↦ absurd (both_ways (k.at_most a b) above le) | inr le ↦ le ]
