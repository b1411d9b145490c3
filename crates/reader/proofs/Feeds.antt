-- Where lines end.
use Rattle.std.proofs.Common.{◌≡◌, ℕ, zero, suc, ◌+◌, ◌-◌, ◌<◌, ◌≤◌, Bool, false, cond, eqb, ◌≢◌, List, [], ◌∷◌, ◌++◌, length, get_or, take, drop, position, Some, None, sym, refl, ap, ◌∙◌, subst, length-drop, arith}
use Rattle.std.proofs.lemmas.List.{take-append-drop, take_all, take_rest, drop_more}
use Rattle.std.proofs.lemmas.List.Quantifiers.{position-Some}
use Rattle.std.proofs.lemmas.List.Sums.{fails_before_first}
use Rattle.std.proofs.lemmas.Bool.{eqb-true, eqb-false, ne_eqb}
use Rattle.std.proofs.lemmas.Bool.Decides.{nat_tests}
use Rattle.std.specs.List.{AllByRecursion as All, position_or_len}
use Rattle.reader.specs.Sheet.{begun, lines}

abbrev pub NoFeed : List ℕ → Type 0
NoFeed bs = All (λ b. b ≢ 10) bs

begun_line : (b : ℕ) (bs : List ℕ) → b ≢ 10 → lines (b ∷ bs) ≡ begun b (lines bs)
begun_line b bs h = ap (λ t. cond t ([] ∷ lines bs) (begun b (lines bs))) (ne_eqb b 10 h)

-- a line with a line feed behind it
pub lines_more : (l rest : List ℕ) → NoFeed l → lines (l ++ 10 ∷ rest) ≡ l ∷ lines rest
lines_more [] rest h = refl
lines_more (b ∷ l) rest h = begun_line b (l ++ 10 ∷ rest) h.0 ∙ ap (begun b) (lines_more l rest h.1)

-- the last line, with none
pub lines_last : (l : List ℕ) → NoFeed l → 0 < length l → lines l ≡ l ∷ []
lines_last [] h some = absurd (omega arith)
lines_last (b ∷ []) h some = begun_line b [] h.0
lines_last (b ∷ c ∷ l) h some = begun_line b (c ∷ l) h.0 ∙ ap (begun b) (lines_last (c ∷ l) h.1 (omega arith))

abbrev feed : ℕ → Bool
feed b = eqb b 10

clear : (bs : List ℕ) (n : ℕ) → ((k : ℕ) → k < n → feed (get_or bs k 0) ≡ false) → NoFeed (take n bs)
clear bs zero h = tt
clear [] (suc n) h = tt
clear (b ∷ bs) (suc n) h = (eqb-false b 10 (h 0 (omega arith)), clear bs n (λ k l. h (suc k) (omega arith)))

-- cut at its first line feed, a text is its first line and the lines of the rest, as the code takes it
module _ (text : List ℕ) where
  pub cut_at : (n : ℕ) → Some n ≡ position feed text → (lines text ≡ take n text ∷ lines (take (length text - (n + 1)) (drop (n + 1) text))) × (length (take (length text - (n + 1)) (drop (n + 1) text)) < length text)
  cut_at n first =
      let (more, here, before) = position-Some feed text n 0 (sym first) in
      let rest : take (length text - (n + 1)) (drop (n + 1) text) ≡ drop (n + 1) text = take_rest text (n + 1) in
      let e : text ≡ take n text ++ 10 ∷ drop (n + 1) text = sym (take-append-drop n text) ∙ ap (λ z. take n text ++ z) (drop_more text n 0 more) ∙ ap (λ b. take n text ++ b ∷ drop (n + 1) text) (eqb-true _ 10 here) in (
        ap lines e ∙ lines_more (take n text) (drop (n + 1) text) (clear text n before) ∙ ap (λ z. take n text ∷ lines z) (sym rest),
        omega (arith, ap length rest, length-drop (n + 1) text),
      )

  pub cut_none : None ≡ position feed text → 0 < length text → lines text ≡ text ∷ []
  cut_none none some =
      let all : length text ≤ position_or_len feed text = grind (arith, nat_tests) in
      lines_last text (subst NoFeed (take_all (length text) text (omega arith)) (clear text (length text) (λ k l. fails_before_first feed text k 0 (omega arith)))) some
