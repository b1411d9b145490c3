-- A write to one place of a table of rows, seen from each place.
use Rattle.std.proofs.Common.{◌≡◌, ℕ, ◌<◌, Bool, true, false, cond, ◌&&◌, eqb, List, [], length, get_or, set, refl, inl, inr, arith}
use Rattle.std.proofs.lemmas.Bool.{cases_eq}
use Rattle.std.proofs.lemmas.List.{get_or-set_same, get_or-set_other}
use Rattle.std.proofs.lemmas.Bool.Decides.{nat_tests}

-- one list
pub place_set : {X : Type 0} (xs : List X) (i : ℕ) (x d : X) → i < length xs → (k : ℕ) → get_or (set xs i x) k d ≡ cond (eqb k i) x (get_or xs k d)
place_set xs i x d lt k = elim (cases_eq k i) [
  | inl e ↦ (let s = get_or-set_same xs i x d lt in grind (arith, nat_tests))
  | inr ne ↦ (let s = get_or-set_other xs i k x d ne in grind (arith, nat_tests))
]

-- a list of rows
pub row_set : (rows : List (List ℕ)) (i j x : ℕ) → i < length rows → j < length (get_or rows i []) → (a l : ℕ)
    → get_or (get_or (set rows i (set (get_or rows i []) j x)) a []) l 0 ≡ cond (eqb a i && eqb l j) x (get_or (get_or rows a []) l 0)
row_set rows i j x lt in' a l =
    let s = place_set rows i (set (get_or rows i []) j x) [] lt a in
    let t = place_set (get_or rows i []) j x 0 in' l in
    grind (arith, nat_tests)

-- a function of one of two values
pub cond_of : {X Y : Type 0} (f : X → Y) (b : Bool) (x y : X) → f (cond b x y) ≡ cond b (f x) (f y)
cond_of f true x y = refl
cond_of f false x y = refl
