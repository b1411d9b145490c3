-- Bytes put into a buffer one after another.
use Rattle.std.proofs.Common.{◌≡◌, ℕ, ◌-◌, List, ◌++◌, length, take, drop, arith, ap, ◌∙◌}
use borrow.Rule.Slice.PartMut.{put_mid}
use Rattle.std.proofs.lemmas.Grind.{common_steps}
use Rattle.tape.specs.Buffers.{put_front}

-- what the rest of a buffer becomes, behind t
behind : (t d ys : List ℕ) → put_mid (length t) (length (t ++ d) - length t) (t ++ d) ys ≡ t ++ ys
behind t d ys = grind (arith, common_steps)

-- the rest of a buffer
rest_is : (t d : List ℕ) → take (length (t ++ d) - length t) (drop (length t) (t ++ d)) ≡ d
rest_is t d = grind (arith, common_steps)

-- t, and bs at the front of what is left
both : (out t bs : List ℕ) → t ++ put_front (drop (length t) out) bs ≡ put_front out (t ++ bs)
both out t bs = grind (arith, common_steps)

-- t at the front, and bs at the front of the rest
pub put_next : (out was t bs rest : List ℕ) (n : ℕ) → was ≡ put_front out t → n ≡ length t
    → rest ≡ put_front (take (length was - n) (drop n was)) bs → put_mid n (length was - n) was rest ≡ put_front out (t ++ bs)
put_next out was t bs rest n w e r =
    let d = drop (length t) out in
    rw (r, w, e) (ap (λ z. put_mid (length t) (length (t ++ d) - length t) (t ++ d) (put_front z bs)) (rest_is t d) ∙ behind t d (put_front d bs) ∙ both out t bs)
