-- What holds of every item of a list, once one of them is written.
use Rattle.std.proofs.Common.{◌≡◌, ℕ, ◌<◌, Bool, true, List, length, get_or, set, sym, ap, ◌∙◌, subst, ⊎_elim, arith}
use Rattle.std.proofs.lemmas.List.{get_or-set_same, get_or-set_other, length-set}
use Rattle.std.proofs.lemmas.Bool.{cases_eq}

module _ {X : Type 0} where
  -- what holds of each of the first n places still holds once one place is written with what passes
  pub test_set : (f : X → Bool) (n i : ℕ) (xs : List X) (x d : X) → i < length xs → f x ≡ true → ((k : ℕ) → k < n → f (get_or xs k d) ≡ true) → (k : ℕ) → k < n → f (get_or (set xs i x) k d) ≡ true
  test_set f n i xs x d lt ok h k l =
      ⊎_elim (λ e. subst (λ (j : ℕ). f (get_or (set xs i x) j d) ≡ true) (sym e) (rw get_or-set_same ok)) (λ ne. ap f (get_or-set_other xs i k x d ne) ∙ h k l) (cases_eq k i)

  -- the same of every place
  pub test_set_all : (f : X → Bool) (i : ℕ) (xs : List X) (x d : X) → i < length xs → f x ≡ true → ((k : ℕ) → k < length xs → f (get_or xs k d) ≡ true) → (k : ℕ) → k < length (set xs i x) → f (get_or (set xs i x) k d) ≡ true
  test_set_all f i xs x d lt ok h k l = test_set f (length xs) i xs x d lt ok h k (omega (arith, length-set xs i x))
