-- Whole lists of calls: each outcome is right.
use mathlib.Core.Path.{◌≡◌, sym, ap, subst, ◌∙◌}
use mathlib.Core.List.{List, [], ◌∷◌, ◌++◌}
use Rattle.track.specs.Map.{Map, after, blank}
use Rattle.track.specs.Calls.{afters, map_after}
use Rattle.track.specs.History.{State, get_in}
use Rattle.track.proofs.Whole.{step_map as map_step_map, step_right as map_step_right}
use Rattle.history.specs.Events.{Event, OnMap, Surveyed, Routed, call_of, calls_of, Step, Happened, Right, CallsStand}

step_map : (a : State) (e : Event) (b : State) → Step a e b → b.map ≡ after a.map (call_of e)
step_map a (OnMap e) b step = map_step_map a e b step
step_map a (Surveyed k rule home t b answer t' b') z (p, same, laws, sound, done) = ap (λ (s : State). s.map) same
step_map a (Routed k rule home mark t l answer t' l') z (p, same, laws, sound, done) = ap (λ (s : State). s.map) same

step_right : (a : State) (e : Event) (b : State) → Step a e b → Right a.map e
step_right a (OnMap e) b step = map_step_right a e b step
step_right a (Surveyed k rule home t b answer t' b') z (p, same, laws, sound, done) = done
step_right a (Routed k rule home mark t l answer t' l') z (p, same, laws, sound, done) = done

-- the events after some calls, from the map that those left
right_from : (a : State) (es : List Event) (e : Event) (later : List Event) (z : State) → Happened a (es ++ e ∷ later) z → Right (afters a.map (calls_of es)) e
right_from a [] e later z (b, step, on) = step_right a e b step
right_from a (d ∷ es) e later z (b, step, on) =
    subst (λ (m : Map). Right (afters m (calls_of es)) e) (step_map a d b step) (right_from b es e later z on)

map_from : (a : State) (es : List Event) (z : State) → Happened a es z → z.map ≡ afters a.map (calls_of es)
map_from a [] z h = ap (λ (s : State). s.map) (sym h)
map_from a (e ∷ es) z (b, step, on) = map_from b es z on ∙ ap (λ (m : Map). afters m (calls_of es)) (step_map a e b step)

pub calls_stand : CallsStand
unfolding map_after
calls_stand = (λ es e later z h. right_from (get_in blank) es e later z h, λ es z h. map_from (get_in blank) es z h)
