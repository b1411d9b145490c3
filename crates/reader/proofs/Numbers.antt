-- Reading a number digit by digit.
use Rattle.std.proofs.Common.{◌≡◌, ℕ, ◌+◌, ◌-◌, ◌*◌, ◌<◌, ◌≤◌, true, cond, ◌&&◌, leb, List, [], ◌∷◌, length, get_or, drop, Some, None, Option, sym, ap, ◌∙◌, arith}
use Rattle.std.proofs.lemmas.List.{drop_more}
use Rattle.std.proofs.lemmas.Bool.Decides.{nat_tests}
use Rattle.std.specs.Char.{is_ascii_digit}
use Rattle.std.specs.Str.{all_ascii_digits}
use Rattle.reader.specs.Scan.{value, number}

-- the number that n and the digits to come write, if it is at most `most`
abbrev pub number_after : ℕ → ℕ → List ℕ → Option ℕ
number_after most n ds = cond (all_ascii_digits ds && leb (value n ds) most) (Some (value n ds)) None

-- more digits never make a number smaller
value_grows : (n : ℕ) (ds : List ℕ) → n ≤ value n ds
value_grows n [] = omega arith
value_grows n (d ∷ ds) = omega (arith, value_grows (10 * n + (d - 48)) ds)

over : (most n : ℕ) (ds : List ℕ) → most < n → number_after most n ds ≡ None
over most n ds past = let g = value_grows n ds in grind (arith, nat_tests)

-- n is what the first i digits write, and the others decide
abbrev pub ReadTo : ℕ → List ℕ → ℕ → ℕ → Type 0
ReadTo most ds i n = (number_after most n (drop i ds) ≡ number most ds) × (n ≤ most)

module _ (most : ℕ) (ds : List ℕ) (i n : ℕ) (so_far : ReadTo most ds i n) (more : i < length ds) where
  pub read_past : is_ascii_digit (get_or ds i 0) ≡ true → most < 10 * n + (get_or ds i 0 - 48) → None ≡ number most ds
  read_past digit past =
      let e : number_after most n (drop i ds) ≡ number_after most (10 * n + (get_or ds i 0 - 48)) (drop (i + 1) ds) = ap (number_after most n) (drop_more ds i 0 more) ∙ rw digit in
      sym (over most (10 * n + (get_or ds i 0 - 48)) (drop (i + 1) ds) past) ∙ sym e ∙ so_far.0
