-- The table of cases, tested as one.
use Rattle.std.proofs.Common.{◌≡◌, ℕ, Bool, true, false, ◌&&◌, eqb, List, [], ◌∷◌, Some, None, Option, refl}
use Rattle.std.proofs.lemmas.Bool.{and_parts, eqb-true, false≢true}
use Rattle.track.specs.Calls.{map_after}
use Rattle.walks.specs.Kinds.{Lawful}
use Rattle.walks.specs.Cheapest.{Task, price, LeadsTo, AtLeast}
use Rattle.walks.specs.Costs.{time_top, time_joint, handover_top, handover_joint}
use Rattle.walks.proofs.Lawful.{sum_lawful, strain_lawful}
use Rattle.rehearsal.specs.Cases.{Letter, t, s, h, kind_of, Case, task_of, Costs, Answered, EachCosts, EachHolds, cases}
use Rattle.rehearsal.proofs.Tests.{leads?, decides_leads, no_repeat?, decides_no_repeat}
use Rattle.rehearsal.proofs.Bounds.{bounds?, bounded}

lawful : (l : Letter) → Lawful (kind_of l)
lawful t = sum_lawful time_top time_joint
lawful s = strain_lawful
lawful h = sum_lawful handover_top handover_joint

abbrev costs? : Task ℕ → ℕ → ℕ × List ℕ → Bool
costs? k mark x = leads? k mark x.1 && (eqb (price k x.1) x.0 && no_repeat? x.1)

costs_are : (k : Task ℕ) (mark : ℕ) (x : ℕ × List ℕ) → costs? k mark x ≡ true → Costs k mark x
costs_are k mark x test =
    let p = and_parts (leads? k mark x.1) _ test in
    let q = and_parts (eqb (price k x.1) x.0) (no_repeat? x.1) p.1 in
    ((decides_leads k mark x.1).0 p.0, eqb-true (price k x.1) x.0 q.0, (decides_no_repeat x.1).0 q.1)

abbrev answered? : Task ℕ → ℕ → Option (ℕ × List ℕ) → List (Option ℕ) → Bool
answered? k mark None ls = bounds? k mark ls (λ b. false)
answered? k mark (Some x) ls = costs? k mark x && bounds? k mark ls (λ b. k.kind.at_most x.0 b)

answered : (k : Task ℕ) → Lawful k.kind → (mark : ℕ) (o : Option (ℕ × List ℕ)) (ls : List (Option ℕ)) → answered? k mark o ls ≡ true → Answered k mark o
answered k laws mark None ls test = λ w leads. false≢true (bounded k laws mark ls (λ b. false) test w leads).1
answered k laws mark (Some x) ls test =
    let p = and_parts (costs? k mark x) _ test in
    let c = costs_are k mark x p.0 in
    let least : AtLeast k (LeadsTo k mark) x.0 = λ w leads. (let b = bounded k laws mark ls (λ b. k.kind.at_most x.0 b) p.1 w leads in laws.trans x.0 b.0 (price k w) b.1 b.2) in
    (record { among = c.0; costs = c.1; least = least }, c.2)

abbrev each_costs? : Task ℕ → ℕ → List (ℕ × List ℕ) → Bool
each_costs? k mark [] = true
each_costs? k mark (x ∷ xs) = costs? k mark x && each_costs? k mark xs

each_costs : (k : Task ℕ) (mark : ℕ) (xs : List (ℕ × List ℕ)) → each_costs? k mark xs ≡ true → EachCosts k mark xs
each_costs k mark [] test = tt
each_costs k mark (x ∷ xs) test = let p = and_parts (costs? k mark x) (each_costs? k mark xs) test in (costs_are k mark x p.0, each_costs k mark xs p.1)

abbrev holds? : Case → List (Option ℕ) → Bool
holds? c ls = answered? (task_of c) c.mark c.answer ls && each_costs? (task_of c) c.mark c.others

-- each case with its labels
abbrev each_holds? : List Case → List (List (Option ℕ)) → Bool
each_holds? [] ls = true
each_holds? (c ∷ cs) [] = false
each_holds? (c ∷ cs) (l ∷ ls) = holds? c l && each_holds? cs ls

each_holds : (cs : List Case) (ls : List (List (Option ℕ))) → each_holds? cs ls ≡ true → EachHolds cs
each_holds [] ls test = tt
each_holds (c ∷ cs) [] test = absurd (false≢true test)
each_holds (c ∷ cs) (l ∷ ls) test =
    let p = and_parts (holds? c l) (each_holds? cs ls) test in
    let q = and_parts (answered? (task_of c) c.mark c.answer l) (each_costs? (task_of c) c.mark c.others) p.0 in
    ((answered (task_of c) (lawful c.kind) c.mark c.answer l q.0, each_costs (task_of c) c.mark c.others q.1), each_holds cs ls p.1)

-- for each case the least cost at which each run ends a legal walk
abbrev labels : List (List (Option ℕ))
labels =
    (Some 30 ∷ Some 20 ∷ Some 40 ∷ Some 90 ∷ [])
    ∷ (Some 30 ∷ Some 20 ∷ Some 40 ∷ Some 90 ∷ [])
    ∷ (Some 30 ∷ Some 20 ∷ Some 40 ∷ Some 89 ∷ [])
    ∷ (Some 30 ∷ Some 20 ∷ Some 40 ∷ Some 90 ∷ [])
    ∷ (Some 40 ∷ Some 70 ∷ Some 70 ∷ Some 60 ∷ [])
    ∷ (Some 30 ∷ Some 20 ∷ Some 40 ∷ Some 90 ∷ [])
    ∷ []
    ∷ (None ∷ None ∷ Some 20 ∷ Some 70 ∷ [])
    ∷ (Some 30 ∷ [])
    ∷ (Some 30 ∷ [])
    ∷ (Some 10 ∷ Some 33 ∷ Some 15 ∷ Some 23 ∷ [])
    ∷ []
    ∷ []
    ∷ []

pub all_hold : EachHolds cases
unfolding map_after
all_hold = each_holds cases labels refl
