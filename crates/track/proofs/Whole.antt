-- Whole lists of calls.
use Rattle.std.proofs.Common.{◌≡◌, List, [], ◌∷◌, ◌++◌, sym, ap, ◌∙◌, subst}
use Rattle.track.specs.Map.{Map, after, blank}
use Rattle.track.specs.Calls.{afters, map_after}
use Rattle.track.specs.History.{Event, Laid, Struck, Retimed, Named, Opened, Closed, Written, call_of, calls_of, State, get_in, Step, Happened, Right, AnswersStand, MapStands, CallsStand}

-- a call leaves what `after` says
pub step_map : (a : State) (e : Event) (b : State) → Step a e b → b.map ≡ after a.map (call_of e)
step_map a (Laid t h w i s x) b (p, q, (r, n)) = n
step_map a (Struck r x) b (p, q, (u, n)) = n
step_map a (Retimed r i x) b (p, q, (u, n)) = n
step_map a (Named v y x) b (p, q, (u, n)) = n
step_map a Opened b (p, q, n) = n
step_map a Closed b (p, q, n) = n
step_map a Written b (p, q, n) = n

pub step_right : (a : State) (e : Event) (b : State) → Step a e b → Right a.map e
step_right a (Laid t h w i s x) b (p, q, (r, n)) = r
step_right a (Struck r x) b (p, q, (u, n)) = u
step_right a (Retimed r i x) b (p, q, (u, n)) = u
step_right a (Named v y x) b (p, q, (u, n)) = u
step_right a Opened b h = tt
step_right a Closed b h = tt
step_right a Written b h = tt

right_from : (a : State) (es : List Event) (e : Event) (later : List Event) (z : State) → Happened a (es ++ e ∷ later) z → Right (afters a.map (calls_of es)) e
right_from a [] e later z (b, step, on) = step_right a e b step
right_from a (d ∷ es) e later z (b, step, on) =
    subst (λ (m : Map). Right (afters m (calls_of es)) e) (step_map a d b step) (right_from b es e later z on)

map_from : (a : State) (es : List Event) (z : State) → Happened a es z → z.map ≡ afters a.map (calls_of es)
map_from a [] z h = ap (λ (s : State). s.map) (sym h)
map_from a (e ∷ es) z (b, step, on) = map_from b es z on ∙ ap (λ (m : Map). afters m (calls_of es)) (step_map a e b step)

answers_stand : AnswersStand
unfolding map_after
answers_stand es e later z h = right_from (get_in blank) es e later z h

map_stands : MapStands
unfolding map_after
map_stands es z h = map_from (get_in blank) es z h

pub calls_stand : CallsStand
calls_stand = (answers_stand, map_stands)
