-- Laws of the map that a list of calls leaves.
use Rattle.std.proofs.Common.{◌≡◌, List, [], ◌∷◌, ◌++◌, sym, refl, ap, ◌∙◌}
use Rattle.track.specs.Map.{Map, Call, after, blank}
use Rattle.track.specs.Calls.{afters, map_after, LeftBy}

-- calls one after another, and then one more
pub afters_more : (m : Map) (cs : List Call) (c : Call) → afters m (cs ++ c ∷ []) ≡ after (afters m cs) c
afters_more m [] c = refl
afters_more m (d ∷ cs) c = afters_more (after m d) cs c

-- a rig as it begins
pub none_yet : (m : Map) → m ≡ blank → LeftBy [] m
unfolding LeftBy map_after
none_yet m e = e

-- the history clause of a call follows from the map that it leaves
pub one_more : (m n : Map) (c : Call) → n ≡ after m c → (cs : List Call) → LeftBy cs m → LeftBy (cs ++ c ∷ []) n
unfolding LeftBy map_after
one_more m n c e cs h = e ∙ ap (λ x. after x c) h ∙ sym (afters_more blank cs c)

-- the map is the one worked out
pub left_is : (cs : List Call) (m : Map) → LeftBy cs m → m ≡ map_after cs
unfolding LeftBy
left_is cs m h = h
