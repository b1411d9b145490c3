-- The commands of the runs of a map lay those runs again.
use Rattle.std.proofs.Common.{◌≡◌, ℕ, suc, ◌+◌, ◌<◌, ◌≤◌, Bool, true, false, cond, List, [], ◌∷◌, ◌++◌, length, get_or, set, sym, refl, ap, ◌∙◌, subst, arith}
use Rattle.std.proofs.lemmas.List.{append-nil, append_assoc, length_push, get_or_at, set_at}
use Rattle.std.proofs.lemmas.Bool.Decides.{nat_tests}
use Rattle.track.specs.declared.run.Run.{Run}
use Rattle.track.specs.Sizes.{most_runs}
use Rattle.track.specs.Runs.{run_ok, idle}
use Rattle.track.specs.Answers.{Answer, gave, if_gave}
use Rattle.track.specs.Map.{Map, lay_answer, run_answer, stricken, altered}
use Rattle.tape.specs.Commands.{lay, strike}
use Rattle.tape.specs.Tape.{numbered, run_commands}
use Rattle.desk.specs.Desks.{Desk, with_map}
use Rattle.player.specs.Faults.{in_map}
use Rattle.player.specs.Play.{step, done, unless_refused}
use Rattle.player.proofs.Undisturbed.{AllDone, done_append}

-- the desk with these runs and names on its map
abbrev pub holding : Desk → List Run → List (List ℕ) → Desk
holding d runs names = with_map d (record { runs = runs; names = names })

lay_accepted : (m : Map) (x : Run) → run_ok x ≡ true → length m.runs < most_runs → lay_answer m x.tail x.head x.winch x.strain ≡ gave (length m.runs)
lay_accepted m x ok room = grind (arith, nat_tests)

time_fits : (x : Run) → run_ok x ≡ true → x.time < 65536
time_fits x ok = grind (arith, nat_tests)

run_accepted : (m : Map) (k : ℕ) → k < length m.runs → (get_or m.runs k idle).struck ≡ false → run_answer m k ≡ gave tt
run_accepted m k l e = grind (arith, nat_tests)

-- the run x with this struck mark
abbrev marked : Run → Bool → Run
marked x b = record { tail = x.tail; head = x.head; winch = x.winch; time = x.time; strain = x.strain; struck = b }

laid_last : (d : Desk) (names : List (List ℕ)) (front : List Run) (x : Run) → run_ok x ≡ true → length front < most_runs
    → step (holding d front names) (lay x.tail x.head x.winch x.time x.strain) ≡ done (holding d (front ++ marked x false ∷ []) names)
laid_last d names front x ok room =
    let m : Map = record { runs = front; names = names } in
    ap (λ (a : Answer ℕ). unless_refused in_map a (done (with_map d (if_gave a (record { runs = front ++ marked x false ∷ []; names = names }) m)))) (lay_accepted m x ok room)

struck_last : (d : Desk) (names : List (List ℕ)) (front : List Run) (x : Run) (k : ℕ) → length front ≡ k
    → step (holding d (front ++ marked x false ∷ []) names) (strike k) ≡ done (holding d (front ++ marked x true ∷ []) names)
struck_last d names front x k e =
    let m : Map = record { runs = front ++ marked x false ∷ []; names = names } in
    let l = length_push front (marked x false) in
    let within : k < length m.runs = omega arith in
    let last = get_or_at front (marked x false) [] idle k e in
    ap (λ (a : Answer (Unit {0})). unless_refused in_map a (done (with_map d (if_gave a (altered m k stricken) m)))) (run_accepted m k within (ap (λ (r : Run). r.struck) last))
    ∙ ap (λ (rs : List Run). done (holding d rs names))
    (ap (λ (r : Run). set m.runs k (stricken r)) last ∙ set_at front (marked x false) [] (marked x true) k e)

run_again : (d : Desk) (names : List (List ℕ)) (front : List Run) (x : Run) (k : ℕ) → length front ≡ k → k < most_runs → run_ok x ≡ true
    → AllDone (holding d front names) (run_commands k x) (holding d (front ++ x ∷ []) names)
run_again d names front x k e room ok = go x.struck refl
  where
    lays : step (holding d front names) (lay x.tail x.head x.winch x.time x.strain) ≡ done (holding d (front ++ marked x false ∷ []) names)
    lays = laid_last d names front x ok (omega arith)

    as_marked : (b : Bool) → x.struck ≡ b → holding d (front ++ marked x b ∷ []) names ≡ holding d (front ++ x ∷ []) names
    as_marked b s = ap (λ (c : Bool). holding d (front ++ marked x c ∷ []) names) (sym s)

    go : (b : Bool) → x.struck ≡ b
        → AllDone (holding d front names) (lay x.tail x.head x.winch x.time x.strain ∷ cond b (strike k ∷ []) []) (holding d (front ++ x ∷ []) names)
    go false s = (holding d (front ++ marked x false ∷ []) names, time_fits x ok, lays, as_marked false s)
    go true s = (
      holding d (front ++ marked x false ∷ []) names,
      time_fits x ok,
      lays,
      (holding d (front ++ marked x true ∷ []) names, tt, struck_last d names front x k e, as_marked true s),
    )

-- behind the runs that are laid already
pub runs_again : (d : Desk) (names : List (List ℕ)) (front xs : List Run) (k : ℕ) → length front ≡ k → k + length xs ≤ most_runs
    → ((i : ℕ) → i < length xs → run_ok (get_or xs i idle) ≡ true)
    → AllDone (holding d front names) (numbered run_commands k xs) (holding d (front ++ xs) names)
runs_again d names front [] k e room ok = ap (λ (rs : List Run). holding d rs names) (sym (append-nil front))
runs_again d names front (x ∷ xs) k e room ok =
    let l = length_push front x in
    let size : length (front ++ x ∷ []) ≡ suc k = omega arith in
    let now : k < most_runs = omega arith in
    let later : suc k + length xs ≤ most_runs = omega arith in
    done_append (holding d front names) (holding d (front ++ x ∷ []) names) (holding d (front ++ x ∷ xs) names) (run_commands k x) (numbered run_commands (suc k) xs)
    (run_again d names front x k e now (ok 0 (omega arith)))
    (subst (λ (rs : List Run). AllDone (holding d (front ++ x ∷ []) names) (numbered run_commands (suc k) xs) (holding d rs names)) (append_assoc front (x ∷ []) xs)
    (runs_again d names (front ++ x ∷ []) xs (suc k) size later (λ i h. ok (suc i) (omega arith))))
