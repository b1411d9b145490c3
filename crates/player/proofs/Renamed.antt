-- The commands of the names of a map, on a map with no point named, name the points again.
use Rattle.std.proofs.Common.{◌≡◌, ℕ, suc, ◌+◌, ◌<◌, ◌≤◌, Bool, true, false, cond, List, [], ◌∷◌, ◌++◌, length, get_or, set, replicate, sym, refl, ap, ◌∙◌, subst, arith}
use Rattle.std.specs.Str.{bytes_eq}
use Rattle.std.proofs.lemmas.Slice.Eq.{bytes_eq-Decides}
use Rattle.std.proofs.lemmas.List.{append_assoc, length_push, set_at}
use Rattle.std.proofs.lemmas.Bool.Decides.{nat_tests}
use Rattle.track.specs.declared.run.Run.{Run}
use Rattle.track.specs.Sizes.{points}
use Rattle.track.specs.Runs.{name_ok, no_name}
use Rattle.track.specs.Answers.{Answer, gave, if_gave}
use Rattle.track.specs.Map.{Map, name_answer}
use Rattle.tape.specs.Commands.{name}
use Rattle.tape.specs.Tape.{numbered, name_commands}
use Rattle.desk.specs.Desks.{Desk, with_map}
use Rattle.player.specs.Faults.{in_map}
use Rattle.player.specs.Play.{step, done, unless_refused}
use Rattle.player.proofs.Undisturbed.{AllDone, done_append}
use Rattle.player.proofs.Relaid.{holding}

name_accepted : (point : ℕ) (text : List ℕ) → point < points → name_ok text ≡ true → name_answer point text ≡ gave tt
name_accepted point text l ok = grind (arith, nat_tests)

eight_bytes : (text : List ℕ) → name_ok text ≡ true → length text ≡ 8
eight_bytes text ok = grind (arith, nat_tests)

-- the names after these are blank
abbrev blanks : List (List ℕ) → List (List ℕ)
blanks ts = replicate (length ts) no_name

named_next : (d : Desk) (runs : List Run) (front rest : List (List ℕ)) (was text : List ℕ) (k : ℕ) → length front ≡ k → k < points → name_ok text ≡ true
    → step (holding d runs (front ++ was ∷ rest)) (name k text) ≡ done (holding d runs (front ++ text ∷ rest))
named_next d runs front rest was text k e room ok =
    let m : Map = record { runs = runs; names = front ++ was ∷ rest } in
    ap (λ (a : Answer (Unit {0})). unless_refused in_map a (done (with_map d (if_gave a (record { runs = runs; names = set (front ++ was ∷ rest) k text }) m)))) (name_accepted k text room ok)
    ∙ ap (λ (ns : List (List ℕ)). done (holding d runs ns)) (set_at front was rest text k e)

name_again : (d : Desk) (runs : List Run) (front rest : List (List ℕ)) (text : List ℕ) (k : ℕ) → length front ≡ k → k < points → name_ok text ≡ true
    → AllDone (holding d runs (front ++ no_name ∷ rest)) (name_commands k text) (holding d runs (front ++ text ∷ rest))
name_again d runs front rest text k e room ok = go (bytes_eq text no_name) refl
  where
    go : (b : Bool) → bytes_eq text no_name ≡ b
        → AllDone (holding d runs (front ++ no_name ∷ rest)) (cond b [] (name k text ∷ [])) (holding d runs (front ++ text ∷ rest))
    go true s = ap (λ (t : List ℕ). holding d runs (front ++ t ∷ rest)) (sym ((bytes_eq-Decides text no_name).0 s))
    go false s = (holding d runs (front ++ text ∷ rest), eight_bytes text ok, named_next d runs front rest no_name text k e room ok, refl)

-- behind the points that are named already
pub names_again : (d : Desk) (runs : List Run) (front ts : List (List ℕ)) (k : ℕ) → length front ≡ k → k + length ts ≤ points
    → ((i : ℕ) → i < length ts → name_ok (get_or ts i []) ≡ true)
    → AllDone (holding d runs (front ++ blanks ts)) (numbered name_commands k ts) (holding d runs (front ++ ts))
names_again d runs front [] k e room ok = refl
names_again d runs front (t ∷ ts) k e room ok =
    let l = length_push front t in
    let size : length (front ++ t ∷ []) ≡ suc k = omega arith in
    let now : k < points = omega arith in
    let later : suc k + length ts ≤ points = omega arith in
    let regroup = append_assoc front (t ∷ []) in
    done_append (holding d runs (front ++ no_name ∷ blanks ts)) (holding d runs (front ++ t ∷ blanks ts)) (holding d runs (front ++ t ∷ ts)) (name_commands k t) (numbered name_commands (suc k) ts)
    (name_again d runs front (blanks ts) t k e now (ok 0 (omega arith)))
    (subst (λ (ns : List (List ℕ)). AllDone (holding d runs ns) (numbered name_commands (suc k) ts) (holding d runs (front ++ t ∷ ts))) (regroup (blanks ts))
    (subst (λ (ns : List (List ℕ)). AllDone (holding d runs ((front ++ t ∷ []) ++ blanks ts)) (numbered name_commands (suc k) ts) (holding d runs ns)) (regroup ts)
    (names_again d runs (front ++ t ∷ []) ts (suc k) size later (λ i h. ok (suc i) (omega arith)))))
