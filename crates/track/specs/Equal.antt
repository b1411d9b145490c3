-- Whether two maps agree, as the test that `==` on rigs computes: the runs with their struck marks, and the names; and that it decides whether they are equal.
use Rattle.std.specs.Prelude.{◌≡◌, ℕ, Bool, true, ◌&&◌, List, nat_eq, refl}
use mathlib.Core.Path.{ap, subst}
use mathlib.Core.Bool.{beq}
use Rattle.std.specs.Bool.{Decides}
use Rattle.std.specs.Ordering.{on, eq_of_both}
use Rattle.std.specs.Cmp.{IsPartialEquivalence, first_so, second_so, unsigned_Decides, booleans_Decides, decided, partial_equiv_from_equiv}
use Rattle.std.specs.Cmp.Lexicographic.{pointwise, pointwise_decides}
use Rattle.track.specs.declared.run.Run.{Run}
use Rattle.track.specs.Map.{Map, EqualMaps}

abbrev pub same_run : Run → Run → Bool
same_run =
    eq_of_both
    (on (λ r. r.tail) nat_eq)
    (eq_of_both
    (on (λ r. r.head) nat_eq)
    (eq_of_both
    (on (λ r. r.winch) nat_eq)
    (eq_of_both
    (on (λ r. r.time) nat_eq)
    (eq_of_both (on (λ r. r.strain) nat_eq) (on (λ r. r.struck) beq)))))

abbrev pub same_map : Map → Map → Bool
same_map = eq_of_both (on (λ m. m.runs) (pointwise same_run)) (on (λ m. m.names) (pointwise (pointwise nat_eq)))

run_same : (a b : Run) → same_run a b ≡ true → a ≡ b
run_same a b h =
    let t = (unsigned_Decides a.tail b.tail).0 (first_so _ _ h) in
    let h1 = second_so _ _ h in
    let e = (unsigned_Decides a.head b.head).0 (first_so _ _ h1) in
    let h2 = second_so _ _ h1 in
    let w = (unsigned_Decides a.winch b.winch).0 (first_so _ _ h2) in
    let h3 = second_so _ _ h2 in
    let m = (unsigned_Decides a.time b.time).0 (first_so _ _ h3) in
    let h4 = second_so _ _ h3 in
    let s = (unsigned_Decides a.strain b.strain).0 (first_so _ _ h4) in
    let x = (booleans_Decides a.struck b.struck).0 (second_so _ _ h4) in
    λ i. record { tail = t i; head = e i; winch = w i; time = m i; strain = s i; struck = x i }

run_itself : (a : Run) → same_run a a ≡ true
run_itself a =
    let t = (unsigned_Decides a.tail a.tail).1 refl in
    let e = (unsigned_Decides a.head a.head).1 refl in
    let w = (unsigned_Decides a.winch a.winch).1 refl in
    let m = (unsigned_Decides a.time a.time).1 refl in
    let s = (unsigned_Decides a.strain a.strain).1 refl in
    let x = (booleans_Decides a.struck a.struck).1 refl in
    λ i. t i && (e i && (w i && (m i && (s i && x i))))

pub same_run_decides : (a b : Run) → Decides (same_run a b) (a ≡ b)
same_run_decides a b = (run_same a b, λ e. subst (λ z. same_run a z ≡ true) e (run_itself a))

runs_decided : (xs ys : List Run) → Decides (pointwise same_run xs ys) (xs ≡ ys)
runs_decided = pointwise_decides same_run_decides

names_decided : (xs ys : List (List ℕ)) → Decides (pointwise (pointwise nat_eq) xs ys) (xs ≡ ys)
names_decided = pointwise_decides (pointwise_decides unsigned_Decides)

pub same_map_decides : (m n : Map) → Decides (same_map m n) (EqualMaps m n)
same_map_decides m n = (
  λ h. ((runs_decided m.runs n.runs).0 (first_so _ _ h), (names_decided m.names n.names).0 (second_so _ _ h)),
  λ e. let r = (runs_decided m.runs n.runs).1 e.0 in let s = (names_decided m.names n.names).1 e.1 in λ i. r i && s i,
)

pub same_map_per : IsPartialEquivalence same_map
same_map_per =
    partial_equiv_from_equiv
    (decided same_map (λ m n. (λ h. let e = (same_map_decides m n).0 h in λ i. record { runs = e.0 i; names = e.1 i }, λ e. (same_map_decides m n).1 (ap (λ (z : Map). z.runs) e, ap (λ (z : Map). z.names) e))))
