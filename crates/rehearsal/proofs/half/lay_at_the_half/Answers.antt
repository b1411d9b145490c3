use Rattle.std.proofs.Common.{◌≡◌, List, [], ◌∷◌, ◌++◌, subst}
use Rattle.std.proofs.lemmas.List.{append_assoc}
use Rattle.track.specs.Map.{Call}
use Rattle.track.specs.Map.Call.{Open, Close}
use Rattle.track.specs.Calls.{map_of, LeftBy}
use Rattle.rehearsal.proofs.half.lay_at_the_half.Goals as goal

three : (calls : List Call) (a b c : Call) → ((calls ++ a ∷ []) ++ b ∷ []) ++ c ∷ [] ≡ calls ++ a ∷ b ∷ c ∷ []
three calls a b c = simp append_assoc

pub returns : goal.returns
returns c = λ calls h.
    (let closed = c.close-rig.ensures.law calls h in
    let laid = c.lay.ensures.law (calls ++ Close ∷ []) closed in
    let opened = c.open.ensures.law _ laid in
    subst (λ (cs : List Call). LeftBy cs (map_of c.open.result)) (three calls Close _ Open) opened)
