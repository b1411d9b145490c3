-- What numbered items give, item by item.
use Rattle.std.proofs.Common.{◌≡◌, ℕ, suc, ◌+◌, ◌<◌, ◌≤◌, List, [], ◌∷◌, ◌++◌, length, get_or, take, drop, refl, arith, rules}
use Rattle.std.specs.List.{flat_map, sum_by}
use Rattle.std.proofs.lemmas.Grind.{flat_map-append, common_steps}
use Rattle.std.proofs.lemmas.List.{append_assoc, length-append, take_more, take-append-drop}
use Rattle.std.proofs.lemmas.List.Sums.{sum_by-cons}
use Rattle.tape.specs.Tape.{numbered}

module _ {X Y : Type 0} (f : ℕ → X → List Y) where
  pub numbered-append : (xs ys : List X) (k : ℕ) → numbered f k (xs ++ ys) ≡ numbered f k xs ++ numbered f (k + length xs) ys
  numbered-append [] ys k = search rules
  numbered-append (x ∷ xs) ys k =
      let e : suc k + length xs ≡ k + suc (length xs) = omega arith in
      rw (numbered-append xs ys (suc k), e, append_assoc)

  -- one item more
  pub numbered_more : (xs : List X) (i : ℕ) (x : X) → i < length xs → x ≡ get_or xs i x → numbered f 0 (take (i + 1) xs) ≡ numbered f 0 (take i xs) ++ f i x
  numbered_more xs i x h e =
      grind (arith, common_steps, take_more xs i x h, numbered-append (take i xs) (x ∷ []) 0)

  -- room for one item more
  pub room : (xs : List X) (i : ℕ) (x : X) → i < length xs → x ≡ get_or xs i x → length (numbered f 0 (take i xs)) + length (f i x) ≤ length (numbered f 0 xs)
  room xs i x h e =
      let m = numbered_more xs i x h e in
      let s = take-append-drop (i + 1) xs in
      let b = numbered-append (take (i + 1) xs) (drop (i + 1) xs) 0 in
      grind (arith, common_steps)

-- the parts of what numbered items give, joined
pub flat_map-numbered : {X Y Z : Type 0} (g : Y → List Z) (f : ℕ → X → List Y) (k : ℕ) (xs : List X) → flat_map g (numbered f k xs) ≡ numbered (λ i x. flat_map g (f i x)) k xs
flat_map-numbered g f k [] = refl
flat_map-numbered g f k (x ∷ xs) = rw (flat_map-append, flat_map-numbered g f (suc k) xs)

-- where an item's number makes what it gives no longer, the lengths add up
pub length-numbered : {X Y : Type 0} (f : ℕ → X → List Y) → ((k : ℕ) (x : X) → length (f k x) ≡ length (f 0 x)) → (k : ℕ) (xs : List X) → length (numbered f k xs) ≡ sum_by (λ x. length (f 0 x)) xs
length-numbered f h k [] = refl
length-numbered f h k (x ∷ xs) = omega (arith, length-append (f k x) (numbered f (suc k) xs), h k x, length-numbered f h (suc k) xs, sum_by-cons (λ y. length (f 0 y)) x xs)
