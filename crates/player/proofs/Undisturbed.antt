-- Commands that lead from one desk to another, each carried out without a fault and without a question.
use Rattle.std.proofs.Common.{◌≡◌, List, [], ◌∷◌, ◌++◌, sym, subst}
use Rattle.tape.specs.Commands.{Said}
use Rattle.tape.specs.Reading.{Sized}
use Rattle.desk.specs.Desks.{Desk}
use Rattle.player.specs.Play.{step, done}

abbrev pub AllDone : Desk → List Said → Desk → Type 0
AllDone d [] e = d ≡ e
AllDone d (c ∷ cs) e = (b : Desk) × Sized c × (step d c ≡ done b) × AllDone b cs e

pub done_append : (d e f : Desk) (cs ds : List Said) → AllDone d cs e → AllDone e ds f → AllDone d (cs ++ ds) f
done_append d e f [] ds h k = subst (λ (x : Desk). AllDone x ds f) (sym h) k
done_append d e f (c ∷ cs) ds (b, z, s, h) k = (b, z, s, done_append b e f cs ds h k)
