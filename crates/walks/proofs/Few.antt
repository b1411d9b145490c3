-- A list of different numbers below n has at most n of them.
use Rattle.std.proofs.Common.{◌≡◌, ℕ, zero, suc, ◌<◌, ◌≤◌, Bool, true, false, cond, eqb, List, [], ◌∷◌, length, sym, refl, ap, subst, arith}
use Rattle.std.specs.List.{AllByRecursion as All}
use Rattle.std.proofs.lemmas.Bool.{eqb-true, eqb-false}
use Rattle.walks.specs.Walks.{Missing, NoRepeat}

-- the list without the number n
abbrev without : ℕ → List ℕ → List ℕ
without n [] = []
without n (r ∷ w) = cond (eqb r n) (without n w) (r ∷ without n w)

missing_without : (n r : ℕ) (w : List ℕ) → Missing r w → Missing r (without n w)
missing_without n r [] m = tt
missing_without n r (q ∷ w) (ne, m) = go (eqb q n) (missing_without n r w m)
  where
    go : (b : Bool) → Missing r (without n w) → Missing r (cond b (without n w) (q ∷ without n w))
    go true h = h
    go false h = (ne, h)

no_repeat_without : (n : ℕ) (w : List ℕ) → NoRepeat w → NoRepeat (without n w)
no_repeat_without n [] a = tt
no_repeat_without n (r ∷ w) (m, a) = go (eqb r n) (missing_without n r w m) (no_repeat_without n w a)
  where
    go : (b : Bool) → Missing r (without n w) → NoRepeat (without n w) → NoRepeat (cond b (without n w) (r ∷ without n w))
    go true h k = k
    go false h k = (h, k)

below_without : (n : ℕ) (w : List ℕ) → All (λ r. r < suc n) w → All (λ r. r < n) (without n w)
below_without n [] h = tt
below_without n (r ∷ w) (lt, h) = go (eqb r n) refl (below_without n w h)
  where
    go : (b : Bool) → eqb r n ≡ b → All (λ r. r < n) (without n w) → All (λ r. r < n) (cond b (without n w) (r ∷ without n w))
    go true e k = k
    go false e k = let ne = eqb-false r n e in (omega arith, k)

without_missing : (n : ℕ) (w : List ℕ) → Missing n w → length (without n w) ≡ length w
without_missing n [] m = refl
without_missing n (r ∷ w) (ne, m) = go (eqb r n) refl (without_missing n w m)
  where
    go : (b : Bool) → eqb r n ≡ b → length (without n w) ≡ length w → length (cond b (without n w) (r ∷ without n w)) ≡ suc (length w)
    go true e k = absurd (ne (sym (eqb-true r n e)))
    go false e k = ap suc k

-- at most one falls out
length_without : (n : ℕ) (w : List ℕ) → NoRepeat w → length w ≤ suc (length (without n w))
length_without n [] a = omega arith
length_without n (r ∷ w) (m, a) = go (eqb r n) refl (length_without n w a)
  where
    go : (b : Bool) → eqb r n ≡ b → length w ≤ suc (length (without n w)) → suc (length w) ≤ suc (length (cond b (without n w) (r ∷ without n w)))
    go true e k = let s = without_missing n w (subst (λ (x : ℕ). Missing x w) (eqb-true r n e) m) in omega arith
    go false e k = omega arith

pub few : (n : ℕ) (w : List ℕ) → NoRepeat w → All (λ r. r < n) w → length w ≤ n
few zero [] a h = omega arith
few zero (r ∷ w) a (lt, h) = absurd (omega arith)
few (suc n) w a h =
    let s = few n (without n w) (no_repeat_without n w a) (below_without n w h) in
    let l = length_without n w a in
    omega arith
