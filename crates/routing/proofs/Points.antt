-- From the places of the runs in a table to the cheapest walk to a point.
use Rattle.std.proofs.Common.{◌≡◌, ℕ, ◌<◌, false, List, [], ◌∷◌, length, set, Some, None, Option, sym, refl, ap, ◌∙◌, subst, inl, inr}
use Rattle.std.proofs.lemmas.List.{get_or_past, get_or-set_same, get_or-set_other}
use Rattle.std.proofs.lemmas.Bool.{cases_lt, cases_eq, both_ways}
use Rattle.track.specs.declared.run.Run.{Run}
use Rattle.walks.specs.Kinds.{Kind, Lawful, Le, Fits}
use Rattle.walks.specs.Rules.{Rule}
use Rattle.walks.specs.Walks.{not_laid, run_at, Walk, joint, penalty_of, differ, along, onward, cost}
use Rattle.walks.specs.Cheapest.{Task, last, LeadsTo, EndsWith, NoWalk, AtLeast, Cheapest}
use Rattle.routing.specs.Tables.{Place, place, reached, TablePlace, TableHolds, BoardPlace}
use Rattle.routing.specs.Offers.{BestBy, BestInto}
use Rattle.routing.proofs.Orders.{le_refl}
use Rattle.routing.proofs.Places.{cases_place}

-- no walk costs less than the start
module _ {C : Type 0} (k : Kind C) (laws : Lawful k) (t : Rule) (m : List Run) where
  onward_up : (c : C) (q : ℕ) (w : List ℕ) → Fits k c → Le k c (onward k t m c q w)
  onward_up c q [] fit = le_refl laws c
  onward_up c q (r ∷ w) fit =
      let x = run_at m q in
      let y = run_at m r in
      let p = penalty_of (joint t x y) in
      let o = k.over c p (differ x y) in
      let fit' = laws.over_fits c p (differ x y) fit in
      laws.trans c o _ (laws.over_up c p (differ x y) fit)
      (laws.trans o (along k o y) _ (laws.along_up o y.time y.strain fit') (onward_up (along k o y) r w (laws.along_fits o y.time y.strain fit')))

  start_least : (w : List ℕ) → Le k k.start (cost k t m w)
  start_least [] = le_refl laws k.start
  start_least (r ∷ w) =
      let y = run_at m r in
      laws.trans k.start (along k k.start y) _ (laws.along_up k.start y.time y.strain laws.start_fits)
      (onward_up (along k k.start y) r w (laws.along_fits k.start y.time y.strain laws.start_fits))

-- a run that is not struck was laid
laid : (m : List Run) (r : ℕ) → (run_at m r).struck ≡ false → r < length m
laid m r up = elim (cases_lt r (length m)) [
  | inl lt ↦ lt
  | inr ge ↦ absurd (both_ways (run_at m r).struck up (ap (λ (x : Run). x.struck) (get_or_past m r not_laid ge)))
]

-- a walk that goes on from the run q ends with a run that was laid, and at its head
ending : (m : List Run) (q : ℕ) (w : List ℕ) (b : ℕ) → (run_at m q).struck ≡ false → Walk m (run_at m q).head w b
    → (r : ℕ) × (last (q ∷ w) ≡ Some r) × ((run_at m r).head ≡ b) × (r < length m)
ending m q [] b up on = (q, refl, on, laid m q up)
ending m q (r ∷ w) b up (up', tail, on) = ending m r w b up' on

module _ {C : Type 0} (k : Task C) (laws : Lawful k.kind) where
  -- the empty walk is a cheapest one to the home
  at_home : (v : ℕ) → v ≡ k.home → Cheapest k (LeadsTo k v) [] k.kind.start
  at_home v home = record { among = (sym home, tt); costs = refl; least = λ w leads. start_least k.kind laws k.rule k.runs w }

  -- so the home's place on the board is the start, reached by no run
  pub home_place : (t : List (Place C)) (v : ℕ) (c : C) → v ≡ k.home → c ≡ k.kind.start → BoardPlace k t v (reached c None)
  home_place t v c home start = (([], subst (Cheapest k (LeadsTo k v) []) (sym start) (at_home v home)), (home, start))

  -- a legal walk to another point ends with a run that was laid and whose head is that point
  ends_with : (v : ℕ) → (v ≡ k.home → ⊥) → (w : List ℕ) → LeadsTo k v w → (r : ℕ) × (r < length k.runs) × ((run_at k.runs r).head ≡ v) × EndsWith k r w
  ends_with v away [] (walk, legal) = absurd (away (sym walk))
  ends_with v away (q ∷ w) ((up, tail, on), legal) =
      let e = ending k.runs q w v up on in
      (e.0, e.3, e.2, (e.1, ((up, tail, subst (Walk k.runs (run_at k.runs q).head w) (sym e.2) on), legal)))

  module _ (t : List (Place C)) (holds : TableHolds k t) (v : ℕ) (away : v ≡ k.home → ⊥) where
    -- where no run into v is reached, no legal walk leads to v
    no_way : ((r : ℕ) → r < length k.runs → (run_at k.runs r).head ≡ v → place t r ≡ None) → NoWalk (LeadsTo k v)
    no_way none w leads =
        let e = ends_with v away w leads in
        let gone : NoWalk (EndsWith k e.0) = subst (TablePlace k t e.0) (none e.0 e.1 e.2) (holds e.0 e.1) in
        gone w e.3

    -- a cost that is above that of no run into v is above that of no legal walk to v
    least : (c : C) → ((r : ℕ) (d : C) (b : Option ℕ) → r < length k.runs → (run_at k.runs r).head ≡ v → place t r ≡ reached d b → Le k.kind c d) → AtLeast k (LeadsTo k v) c
    least c low w leads =
        let e = ends_with v away w leads in
        let here = holds e.0 e.1 in
        elim (cases_place (place t e.0)) [
          | inl gone ↦ (let none : NoWalk (EndsWith k e.0) = subst (TablePlace k t e.0) gone here in absurd (none w e.3))
          | inr is ↦ (let found : TablePlace k t e.0 (reached is.0 is.1) = subst (TablePlace k t e.0) is.2 here in
              laws.trans c is.0 _ (low e.0 is.0 is.1 e.1 e.2 is.2) (found.1.least w e.3))
        ]

    best_by : (c : C) (b : Option ℕ) → BestBy k.kind k.runs t (length k.runs) v c b → BoardPlace k t v (reached c b)
    best_by c None none = absurd none
    best_by c (Some r) best =
        let found : TablePlace k t r (reached c best.label.0) = subst (TablePlace k t r) best.label.1 (holds r best.among) in
        let way = found.1 in (
          (found.0, record { among = subst (λ (b : ℕ). LeadsTo k b found.0) best.into way.among.1; costs = way.costs; least = least c best.lowest }),
          (away, best.into, best.label),
        )

    -- so the best place that the runs offer v is its place on the board
    pub best_place : (p : Place C) → BestInto k.kind k.runs t (length k.runs) v p → BoardPlace k t v p
    best_place None none = no_way none
    best_place (Some p) best = best_by p.cost p.run best

  -- the best places that the runs offer, and then the home's, make a board
  pub board_holds : (t b : List (Place C)) (c : C) (n : ℕ) → TableHolds k t → k.home < length b → c ≡ k.kind.start
      → ((v : ℕ) → v < n → BestInto k.kind k.runs t (length k.runs) v (place b v))
      → (v : ℕ) → v < n → BoardPlace k t v (place (set b k.home (reached c None)) v)
  board_holds t b c n holds room start best v lt = elim (cases_eq v k.home) [
    | inl home ↦ subst (BoardPlace k t v) (sym (ap (place (set b k.home (reached c None))) home ∙ get_or-set_same b k.home (reached c None) None room)) (home_place t v c home start)
    | inr away ↦ subst (BoardPlace k t v) (sym (get_or-set_other b k.home v (reached c None) None away)) (best_place t holds v away (place b v) (best v lt))
  ]
