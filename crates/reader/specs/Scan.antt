-- The words and numbers of a line, one after another.
use Rattle.std.specs.Prelude.{ℕ, ◌+◌, ◌-◌, ◌*◌, Bool, cond, ◌&&◌, List, [], ◌∷◌, length, Some, None, Option, ◌==◌, nat_le}
use Rattle.std.specs.Str.{all_ascii_digits}

-- reading goes on with what was read, or stops: `do` below is over this
infixl 40 ◌>>=◌
abbrev pub ◌>>=◌ : {X Y : Type 0} → Option X → (X → Option Y) → Option Y
◌>>=◌ None f = None
◌>>=◌ (Some x) f = f x

-- the bytes from the first that is not a space
abbrev pub trimmed : List ℕ → List ℕ
trimmed [] = []
trimmed (b ∷ bs) = cond (b == 32) (trimmed bs) (b ∷ bs)

-- the bytes before the first space
abbrev pub word : List ℕ → List ℕ
word [] = []
word (b ∷ bs) = cond (b == 32) [] (b ∷ word bs)

-- the bytes from the first space on
abbrev pub behind : List ℕ → List ℕ
behind [] = []
behind (b ∷ bs) = cond (b == 32) (b ∷ bs) (behind bs)

-- the number that digits write after those of n
abbrev pub value : ℕ → List ℕ → ℕ
value n [] = n
value n (b ∷ bs) = value (10 * n + (b - 48)) bs

-- a word of digits, one or more, that write a number up to `most`
abbrev pub number : ℕ → List ℕ → Option ℕ
number most [] = None
number most (b ∷ bs) = cond (all_ascii_digits (b ∷ bs) && nat_le (value 0 (b ∷ bs)) most) (Some (value 0 (b ∷ bs))) None

-- the next word, as a number up to `most`, and the bytes behind it
abbrev pub next : ℕ → List ℕ → Option (ℕ × List ℕ)
next most bs = do
  n ← number most (word (trimmed bs))
  Some (n, behind (trimmed bs))

-- no word is left
abbrev pub over : List ℕ → Bool
over bs = length (trimmed bs) == 0

-- what was read, if no word is left
abbrev pub ended : {X : Type 0} → List ℕ → X → Option X
ended bs x = cond (over bs) (Some x) None
