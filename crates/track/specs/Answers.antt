-- What a call answers, and the first refusal that applies.
use Rattle.std.specs.Prelude.{ℕ, Bool, cond, List, [], ◌∷◌, Ok, Err, Result}

-- a value, or the number of a refusal
pub data Answer (X : Type 0) : Type 0 where
  gave : X → Answer X
  refused : ℕ → Answer X

-- a result of the code, read so; each enum of refusals has its own numbers
abbrev pub told : {X E : Type 0} → (E → ℕ) → Result X E → Answer X
told number (Ok x) = gave x
told number (Err e) = refused (number e)

-- one ground for refusal: whether it applies, and its number
pub record Check : Type 0 where
  pub fails : Bool
  pub number : ℕ

abbrev pub check : Bool → ℕ → Check
check b n = record { fails = b; number = n }

-- the first refusal that applies, or else the answer
abbrev pub unless : {X : Type 0} → List Check → Answer X → Answer X
unless [] a = a
unless (c ∷ cs) a = cond c.fails (refused c.number) (unless cs a)

-- x where the call was not refused, else y
abbrev pub if_gave : {X Y : Type 0} → Answer X → Y → Y → Y
if_gave (gave a) x y = x
if_gave (refused n) x y = y
