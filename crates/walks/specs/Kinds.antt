-- What a kind of cost is, and its laws.
use Rattle.std.specs.Prelude.{◌≡◌, ℕ, Bool, true, ◌⊎◌}

-- The meaning of a kind with costs of type C: its start, its order and its two steps.
pub record Kind (C : Type 0) : Type 0 where
  pub start : C
  -- the first cost is not above the second
  pub at_most : C → C → Bool
  -- a step along a run, told its time and its strain
  pub along : C → (time strain : ℕ) → C
  -- a step over a joint, told the penalty and whether the winches differ
  pub over : C → (penalty : ℕ) → (differ : Bool) → C
  -- which values of C are costs: a machine number is a ℕ here, which has no top
  pub fits : C → Bool

abbrev pub Le : {C : Type 0} → Kind C → C → C → Type 0
Le k a b = k.at_most a b ≡ true

abbrev pub Fits : {C : Type 0} → Kind C → C → Type 0
Fits k c = k.fits c ≡ true

pub record Lawful {C : Type 0} (k : Kind C) : Type 0 where
  -- any two costs compare, the order is transitive, and two costs neither of which is above the other are equal
  pub total : (a b : C) → Le k a b ⊎ Le k b a
  pub trans : (a b c : C) → Le k a b → Le k b c → Le k a c
  pub antisym : (a b : C) → Le k a b → Le k b a → a ≡ b
  -- the start is a cost, and a step from a cost leads to a cost
  pub start_fits : Fits k k.start
  pub along_fits : (c : C) (time strain : ℕ) → Fits k c → Fits k (k.along c time strain)
  pub over_fits : (c : C) (penalty : ℕ) (differ : Bool) → Fits k c → Fits k (k.over c penalty differ)
  -- a step never gives a lower cost
  pub along_up : (c : C) (time strain : ℕ) → Fits k c → Le k c (k.along c time strain)
  pub over_up : (c : C) (penalty : ℕ) (differ : Bool) → Fits k c → Le k c (k.over c penalty differ)
  -- if one cost is not above another, it still is not after the same step taken by both
  pub along_keeps : (a b : C) (time strain : ℕ) → Le k a b → Le k (k.along a time strain) (k.along b time strain)
  pub over_keeps : (a b : C) (penalty : ℕ) (differ : Bool) → Le k a b → Le k (k.over a penalty differ) (k.over b penalty differ)
