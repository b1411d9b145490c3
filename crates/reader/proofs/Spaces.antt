-- Where words begin and end.
use Rattle.std.proofs.Common.{◌≡◌, ℕ, ◌+◌, Bool, true, false, cond, not, eqb, List, [], ◌∷◌, ◌++◌, length, get_or, take, drop, position, sym, refl, ap, ◌∙◌, one-add, arith}
use Rattle.std.proofs.lemmas.List.{take_at, drop_at, drop_more, drop_all}
use Rattle.std.proofs.lemmas.List.Recursion.{is_position_or_len}
use Rattle.std.proofs.lemmas.List.Sums.{prefix_len-le-length}
use Rattle.std.proofs.lemmas.Bool.Decides.{nat_tests}
use Rattle.std.specs.List.{position_or_len}
use Rattle.std.specs.Option.{unwrap_or}
use Rattle.reader.specs.Scan.{word, behind}

-- a word and what is behind it are the bytes
cut : (t : Bool) (b : ℕ) (bs w r : List ℕ) → w ++ r ≡ bs → cond t [] (b ∷ w) ++ cond t (b ∷ bs) r ≡ b ∷ bs
cut true b bs w r e = refl
cut false b bs w r e = ap (λ z. b ∷ z) e

pub word_behind : (bs : List ℕ) → word bs ++ behind bs ≡ bs
word_behind [] = refl
word_behind (b ∷ bs) = cut (eqb b 32) b bs (word bs) (behind bs) (word_behind bs)

abbrev space : ℕ → Bool
space b = eqb b 32

length_by : (t : Bool) (b : ℕ) (w : List ℕ) → length (cond t [] (b ∷ w)) ≡ cond t 0 (1 + length w)
length_by true b w = refl
length_by false b w = sym (one-add (length w))

-- a word ends at the first space, or with the bytes
length-word : (bs : List ℕ) → length (word bs) ≡ position_or_len space bs
length-word bs = is_position_or_len (λ z. length (word z)) space refl (λ b bs. length_by (eqb b 32) b (word bs)) bs

pub word_end : (bs : List ℕ) → unwrap_or (position space bs) (length bs) ≡ length (word bs)
word_end bs = grind (arith, nat_tests, length-word bs, prefix_len-le-length (λ x. not (space x)) bs)

module _ (bs : List ℕ) (n : ℕ) (end : n ≡ length (word bs)) where
  pub word_front : take n bs ≡ word bs
  word_front = ap (take n) (sym (word_behind bs)) ∙ take_at (word bs) (behind bs) n (sym end)

  pub word_back : drop n bs ≡ behind bs
  word_back = ap (drop n) (sym (word_behind bs)) ∙ drop_at (word bs) (behind bs) n (sym end)

-- a word of six letters is known by them
letters : (w : List ℕ) → length w ≡ 6 → w ≡ get_or w 0 0 ∷ get_or w 1 0 ∷ get_or w 2 0 ∷ get_or w 3 0 ∷ get_or w 4 0 ∷ get_or w 5 0 ∷ []
letters w six =
    drop_more w 0 0 (omega arith)
    ∙ ap (λ z. get_or w 0 0 ∷ z) (drop_more w 1 0 (omega arith)
    ∙ ap (λ z. get_or w 1 0 ∷ z) (drop_more w 2 0 (omega arith)
    ∙ ap (λ z. get_or w 2 0 ∷ z) (drop_more w 3 0 (omega arith)
    ∙ ap (λ z. get_or w 3 0 ∷ z) (drop_more w 4 0 (omega arith)
    ∙ ap (λ z. get_or w 4 0 ∷ z) (drop_more w 5 0 (omega arith)
    ∙ ap (λ z. get_or w 5 0 ∷ z) (drop_all 6 w (omega arith)))))))

abbrev pub HasLetters : List ℕ → List ℕ → Type 0
HasLetters w v =
    (length w ≡ 6) × (length v ≡ 6)
    × (get_or w 0 0 ≡ get_or v 0 0) × (get_or w 1 0 ≡ get_or v 1 0) × (get_or w 2 0 ≡ get_or v 2 0)
    × (get_or w 3 0 ≡ get_or v 3 0) × (get_or w 4 0 ≡ get_or v 4 0) × (get_or w 5 0 ≡ get_or v 5 0)

pub six_letters : (w v : List ℕ) → HasLetters w v → w ≡ v
six_letters w v (six, other, e0, e1, e2, e3, e4, e5) = let a = letters w six in let b = letters v other in cc
