-- The best place that the first runs offer a point, one run after another.
use Rattle.std.proofs.Common.{◌≡◌, ℕ, ◌+◌, ◌<◌, Bool, true, false, cond, not, ◌⊎◌, List, length, set, Some, None, Option, sym, refl, ap, ◌∙◌, subst, inl, inr, arith}
use Rattle.std.proofs.lemmas.List.{get_or-set_same, get_or-set_other}
use Rattle.std.proofs.lemmas.Bool.{cases_lt, cases_eq}
use Rattle.track.specs.declared.run.Run.{Run}
use Rattle.walks.specs.Kinds.{Kind, Lawful, Le}
use Rattle.walks.specs.Walks.{run_at}
use Rattle.routing.specs.Tables.{Place, place, reached}
use Rattle.routing.specs.Steps.{cost_in, improved}
use Rattle.routing.specs.Offers.{LowestInto, BestRun, BestBy, BestInto}
use Rattle.routing.proofs.Orders.{le_refl, le_flip}
use Rattle.routing.proofs.Places.{absent_reached, same_cost}

-- what is below n + 1 is below n or is n
below_next : (r n : ℕ) → r < n + 1 → (r < n) ⊎ (r ≡ n)
below_next r n h = elim (cases_lt r n) [ inl lt ↦ inl lt | inr ge ↦ inr (omega arith) ]

module _ {C : Type 0} (k : Kind C) (laws : Lawful k) (m : List Run) (t : List (Place C)) (v : ℕ) where
  -- the cost c is still lowest once the run n is looked at
  lowest_more : (n : ℕ) (c : C) → ((d : C) (b : Option ℕ) → (run_at m n).head ≡ v → place t n ≡ reached d b → Le k c d) → LowestInto k m t n v c → LowestInto k m t (n + 1) v c
  lowest_more n c here low r d b lt into is = elim (below_next r n lt) [
    | inl l ↦ low r d b l into is
    | inr e ↦ here d b (subst (λ (i : ℕ). (run_at m i).head ≡ v) e into) (subst (λ (i : ℕ). place t i ≡ reached d b) e is)
  ]

  lowest_by : (n : ℕ) (c : C) (b : Option ℕ) → BestBy k m t n v c b → LowestInto k m t n v c
  lowest_by n c None best = absurd best
  lowest_by n c (Some r) best = best.lowest

  keep : (n : ℕ) (c : C) (r : ℕ) → ((d : C) (b : Option ℕ) → (run_at m n).head ≡ v → place t n ≡ reached d b → Le k c d) → BestRun k m t n v c r → BestRun k m t (n + 1) v c r
  keep n c r here best = record { among = omega (arith, best.among); into = best.into; label = best.label; lowest = lowest_more n c here best.lowest }

  keep_by : (n : ℕ) (c : C) (b : Option ℕ) → ((d : C) (b : Option ℕ) → (run_at m n).head ≡ v → place t n ≡ reached d b → Le k c d) → BestBy k m t n v c b → BestBy k m t (n + 1) v c b
  keep_by n c None here best = best
  keep_by n c (Some r) here best = keep n c r here best

  take_up : (n : ℕ) (c : C) (b : Option ℕ) → (run_at m n).head ≡ v → place t n ≡ reached c b → LowestInto k m t n v c → BestRun k m t (n + 1) v c n
  take_up n c b into is low =
      record {
        among = omega arith;
        into = into;
        label = (b, is);
        lowest = lowest_more n c (λ d e i at. subst (λ (x : C). Le k c x) (same_cost (place t n) c d b e is at) (le_refl laws c)) low;
      }

  none_more : (n : ℕ) → ((run_at m n).head ≡ v → place t n ≡ None) → BestInto k m t n v None → BestInto k m t (n + 1) v None
  none_more n here none r lt into = elim (below_next r n lt) [
    | inl l ↦ none r l into
    | inr e ↦ ap (place t) e ∙ here (subst (λ (i : ℕ). (run_at m i).head ≡ v) e into)
  ]

  -- no run offers anything before the first
  pub best_none : BestInto k m t 0 v None
  best_none r lt into = absurd (omega arith)

  -- a run into another point offers v nothing
  pub best_past : (n : ℕ) (p : Place C) → ((run_at m n).head ≡ v → ⊥) → BestInto k m t n v p → BestInto k m t (n + 1) v p
  best_past n None past none = none_more n (λ into. absurd (past into)) none
  best_past n (Some p) past best = keep_by n p.cost p.run (λ d b into is. absurd (past into)) best

  -- a run into v offers what its place in the table has
  best_offer : (n : ℕ) (p q : Place C) → (run_at m n).head ≡ v → place t n ≡ q → BestInto k m t n v p → BestInto k m t (n + 1) v (improved k.at_most n (cost_in q) p)
  best_offer n None None into is none = none_more n (λ i. is) none
  best_offer n (Some p) None into is best = keep_by n p.cost p.run (λ d b i at. absurd (absent_reached (place t n) d b is at)) best
  best_offer n None (Some q) into is none = take_up n q.cost q.run into is (λ r d e lt i at. absurd (absent_reached (place t r) d e (none r lt i) at))
  best_offer n (Some p) (Some q) into is best = go (k.at_most p.cost q.cost) refl
    where
      go : (x : Bool) → k.at_most p.cost q.cost ≡ x → BestInto k m t (n + 1) v (cond (not x) (reached q.cost (Some n)) (Some p))
      go true le = keep_by n p.cost p.run (λ a e i at. subst (λ (y : C). Le k p.cost y) (same_cost (place t n) q.cost a q.run e is at) le) best
      go false gt =
          take_up n q.cost q.run into is (λ r a e lt i at. laws.trans q.cost p.cost a (le_flip laws p.cost q.cost gt) (lowest_by n p.cost p.run best r a e lt i at))

  pub best_more : (n : ℕ) (p q x : Place C) (offer : Option C) → (run_at m n).head ≡ v → place t n ≡ q → offer ≡ cost_in q → x ≡ improved k.at_most n offer p
      → BestInto k m t n v p → BestInto k m t (n + 1) v x
  best_more n p q x offer into is has new best =
      subst (BestInto k m t (n + 1) v) (sym (new ∙ ap (λ (o : Option C). improved k.at_most n o p) has)) (best_offer n p q into is best)

-- the same for every point of a board at once
module _ {C : Type 0} (k : Kind C) (laws : Lawful k) (m : List Run) (t b : List (Place C)) (n : ℕ) where
  pub board_more : (h : ℕ) (p q x : Place C) (offer : Option C) → h < length b → (run_at m n).head ≡ h → place b h ≡ p → place t n ≡ q → offer ≡ cost_in q → x ≡ improved k.at_most n offer p
      → ((v : ℕ) → v < length b → BestInto k m t n v (place b v)) → (v : ℕ) → v < length b → BestInto k m t (n + 1) v (place (set b h x) v)
  board_more h p q x offer lt head is-p is-q has new best v within = elim (cases_eq v h) [
    | inl e ↦ best_more k laws m t v n p q (place (set b h x) v) offer (head ∙ sym e) is-q has (ap (place (set b h x)) e ∙ get_or-set_same b h x None lt ∙ new) (subst (BestInto k m t n v) (ap (place b) e ∙ is-p) (best v within))
    | inr ne ↦ subst (BestInto k m t (n + 1) v) (sym (get_or-set_other b h v x None ne)) (best_past k laws m t v n (place b v) (λ e. ne (sym e ∙ head)) (best v within))
  ]
