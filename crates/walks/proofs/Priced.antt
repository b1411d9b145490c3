-- A walk followed run by run, and what that says of its cost.
use Rattle.std.proofs.Common.{◌≡◌, ℕ, ◌+◌, ◌-◌, ◌<◌, List, [], ◌∷◌, length, get_or, take, drop, Some, None, Option, sym, refl, ap, ◌∙◌, subst, arith}
use Rattle.std.proofs.lemmas.List.{at_drop_more, take_all}
use Rattle.track.specs.declared.run.Run.{Run}
use Rattle.walks.specs.Walks.{run_at, Walk}
use Rattle.walks.specs.Moves.{follow_cost}
use Rattle.walks.specs.Cheapest.{Task, price, last, LeadsTo, EndsWith}
use Rattle.walks.specs.Prices.{Priced}
use Rattle.walks.proofs.Net.{Net, Onward}
use Rattle.walks.proofs.Ways.{net, walk_way, way_walk, none_some}

abbrev pub then : {A B : Type 0} → Option A → (A → Option B) → Option B
then None f = None
then (Some a) f = f a

then_some : {A B : Type 0} (o : Option A) (f : A → Option B) (b : B) → then o f ≡ Some b → (a : A) × (o ≡ Some a) × (f a ≡ Some b)
then_some None f b e = absurd (none_some None b refl e)
then_some (Some a) f b e = (a, refl, e)

some_pair : {A B : Type 0} (x y : A × B) → Some x ≡ Some y → (x.0 ≡ y.0) × (x.1 ≡ y.1)
some_pair {A} {B} x y e = let same : x ≡ y = cc in (ap (λ (z : A × B). z.0) same, ap (λ (z : A × B). z.1) same)

-- the runs of the list follow the run q, which was reached at cost c: the last run and the cost, if each may follow
abbrev pub trace : {C : Type 0} → Net C → (q : ℕ) → C → List ℕ → Option (ℕ × C)
trace N q c [] = Some (q, c)
trace N q c (r ∷ w) = then (N.after q r c) (λ d. trace N r d w)

-- a list with runs, from its first run on
abbrev pub traced : {C : Type 0} → Net C → List ℕ → Option (ℕ × C)
traced N w = then (N.first (get_or w 0 0)) (λ c. trace N (get_or w 0 0) c (take (length w - 1) (drop 1 w)))

-- a trace is a way
trace_onward : {C : Type 0} (N : Net C) (q : ℕ) (c : C) (w : List ℕ) (r : ℕ) (d : C) → trace N q c w ≡ Some (r, d) → Onward N q c w r d
trace_onward N q c [] r d e = some_pair (q, c) (r, d) e
trace_onward N q c (s ∷ w) r d e = let n = then_some (N.after q s c) (λ x. trace N s x w) (r, d) e in (n.0, n.1, trace_onward N s n.0 w r d n.2)

onward_trace : {C : Type 0} (N : Net C) (q : ℕ) (c : C) (w : List ℕ) (r : ℕ) (d : C) → Onward N q c w r d → trace N q c w ≡ Some (r, d)
onward_trace {C} N q c [] r d (same, cost) = ap (λ (x : ℕ). Some (x, c)) same ∙ ap (λ (x : C). Some (r, x)) cost
onward_trace {C} N q c (s ∷ w) r d (x, step, on) = ap (λ (o : Option C). then o (λ y. trace N s y w)) step ∙ onward_trace N s x w r d on

-- one turn of a loop that traces
pub trace_more : {C : Type 0} (k : Task C) (w : List ℕ) (i q : ℕ) (b : C) (x y : Run) (o : Option C) → i < length w
    → x ≡ run_at k.runs q → y ≡ run_at k.runs (get_or w i 0) → o ≡ follow_cost k.kind k.rule x y b
    → trace (net k) q b (drop i w) ≡ then o (λ c. trace (net k) (get_or w i 0) c (drop (i + 1) w))
trace_more {C} k w i q b x y o lt is_last is-next step =
    at_drop_more (trace (net k) q b) w i 0 lt
    ∙ ap (λ (z : Option C). then z (λ c. trace (net k) (get_or w i 0) c (drop (i + 1) w)))
    (ap (λ (z : Run). follow_cost k.kind k.rule z (run_at k.runs (get_or w i 0)) b) (sym is_last) ∙ ap (λ (z : Run). follow_cost k.kind k.rule x z b) (sym is-next) ∙ sym step)

-- a walk with runs has a last one, at whose head it ends
last_run : (m : List Run) (a q : ℕ) (w : List ℕ) (b : ℕ) → Walk m a (q ∷ w) b → (r : ℕ) × ((run_at m r).head ≡ b) × (last (q ∷ w) ≡ Some r)
last_run m a q [] b (un, tail, same) = (q, same, refl)
last_run m a q (r ∷ w) b (un, tail, walk) = last_run m (run_at m q).head r w b walk

pub ends_with : {C : Type 0} (k : Task C) (mark q : ℕ) (w : List ℕ) → LeadsTo k mark (q ∷ w) → (r : ℕ) × ((run_at k.runs r).head ≡ mark) × EndsWith k r (q ∷ w)
ends_with k mark q w (walk, legal) =
    let n = last_run k.runs k.home q w mark walk in
    (n.0, n.1, (n.2, (subst (λ (v : ℕ). Walk k.runs k.home (q ∷ w) v) (sym n.1) walk, legal)))

module _ {C : Type 0} (k : Task C) (mark : ℕ) where
  traced_is : (q : ℕ) (w : List ℕ) → traced (net k) (q ∷ w) ≡ then ((net k).first q) (λ c. trace (net k) q c w)
  traced_is q w = ap (λ (z : List ℕ). then ((net k).first q) (λ c. trace (net k) q c z)) (take_all (length (q ∷ w) - 1) w (omega arith))

  -- a legal walk to the mark is traced to its last run, at what it costs
  leads_traced : (w : List ℕ) → 0 < length w → LeadsTo k mark w → (r : ℕ) × ((run_at k.runs r).head ≡ mark) × (traced (net k) w ≡ Some (r, price k w))
  leads_traced [] some leads = absurd (omega arith)
  leads_traced (q ∷ w) some leads =
      let e = ends_with k mark q w leads in
      let n = walk_way k (q ∷ w) e.0 e.2 in
      (e.0, e.1, traced_is q w ∙ ap (λ (o : Option C). then o (λ y. trace (net k) q y w)) n.1 ∙ onward_trace (net k) q n.0 w e.0 (price k (q ∷ w)) n.2)

  pub priced_there : (w : List ℕ) → 0 < length w → (r : ℕ) (c : C) → traced (net k) w ≡ Some (r, c) → (run_at k.runs r).head ≡ mark → Priced k mark w (Some c)
  priced_there [] some r c e at = absurd (omega arith)
  priced_there (q ∷ w) some r c e at =
      let t = then_some ((net k).first q) (λ b. trace (net k) q b w) (r, c) (sym (traced_is q w) ∙ e) in
      let n = way_walk k (q ∷ w) r c (t.0, t.1, trace_onward (net k) q t.0 w r c t.2) in
      ((subst (λ (v : ℕ). Walk k.runs k.home (q ∷ w) v) at n.0.1.0, n.0.1.1), n.1)

  pub priced_elsewhere : (w : List ℕ) → 0 < length w → (r : ℕ) (c : C) → traced (net k) w ≡ Some (r, c) → ((run_at k.runs r).head ≡ mark → ⊥) → Priced k mark w None
  priced_elsewhere w some r c e off leads =
      let n = leads_traced w some leads in
      let same = (some_pair (n.0, price k w) (r, c) (sym n.2 ∙ e)).0 in
      off (subst (λ (x : ℕ). (run_at k.runs x).head ≡ mark) same n.1)

  pub priced_nowhere : (w : List ℕ) → 0 < length w → traced (net k) w ≡ None → Priced k mark w None
  priced_nowhere w some e leads = let n = leads_traced w some leads in none_some (traced (net k) w) (n.0, price k w) e n.2
