-- What one more turn adds to each loop of the search.
use Rattle.std.proofs.Common.{below_more, None, ◌≡◌, ℕ, zero, suc, ◌+◌, ◌<◌, ◌≤◌, Bool, true, false, cond, List, [], ◌∷◌, length, get_or, set, replicate, Some, Option, sym, refl, ap, ◌∙◌, subst, inl, inr, arith}
use Rattle.std.proofs.lemmas.Bool.{cases_lt, both_ways, not-true, not-false}
use Rattle.std.proofs.lemmas.List.{get_or_past, get_or_default, get_or-replicate, length-replicate, get_or-set_same, get_or-set_other}
use Rattle.track.specs.declared.run.Run.{Run}
use Rattle.walks.specs.Kinds.{Kind, Lawful, Le}
use Rattle.walks.specs.Rules.{Rule}
use Rattle.walks.specs.Walks.{run_at, not_laid}
use Rattle.walks.specs.Moves.{begin_cost, follow_cost}
use Rattle.walks.specs.Cheapest.{Task}
use Rattle.walks.proofs.Ways.{net, net_laws, none_some}
use Rattle.std.specs.Option.{MatchOption, option_map}
use Rattle.routing.specs.declared.search.Waiting.{Waiting}
use Rattle.routing.specs.Tables.{Place, place}
use Rattle.routing.specs.Steps.{cost_in, label, taken_at, begun, lower, improved, relaxed, Relaxed, NoneWaits, Lowest}
use Rattle.routing.proofs.Orders.{le_refl, le_flip}
use Rattle.routing.proofs.Turns.{Good, good_after}

-- a loop that goes over the places turns g into f, one after another
pub row_more : {A : Type 0} (f g old new : ℕ → A) (i : ℕ) → new i ≡ f i → ((r : ℕ) → (r ≡ i → ⊥) → new r ≡ old r)
    → ((r : ℕ) → r < i → old r ≡ f r) × ((r : ℕ) → i ≤ r → old r ≡ g r)
    → ((r : ℕ) → r < i + 1 → new r ≡ f r) × ((r : ℕ) → i + 1 ≤ r → new r ≡ g r)
row_more f g old new i here others (front, rest) =
    (below_more (λ (r : ℕ). new r ≡ f r) i (λ r h. others r (omega arith) ∙ front r h) here, λ r h. others r (omega arith) ∙ rest r (omega arith))

-- past the runs nothing begins a walk, and nothing follows
pub begun_past : {C : Type 0} (k : Kind C) (home : ℕ) (m : List Run) (r : ℕ) → length m ≤ r → begun (begin_cost k home (run_at m r)) ≡ None
begun_past k home m r past = ap (λ (x : Run). begun (begin_cost k home x)) (get_or_past m r not_laid past)

same_either : {A : Type 0} (b : Bool) (x : A) → cond b x x ≡ x
same_either true x = refl
same_either false x = refl

pub relaxed_past : {C : Type 0} (k : Kind C) (rule : Rule) (m : List Run) (d : List Bool) (u : ℕ) (c : C) (t : List (Place C)) (r : ℕ) → length m ≤ r → relaxed k rule m d u c t r ≡ place t r
relaxed_past k rule m d u c t r past =
    ap (λ (x : Run). cond (taken_at d r) (place t r) (improved k.at_most u (follow_cost k rule (run_at m u) x c) (place t r))) (get_or_past m r not_laid past)
    ∙ same_either (taken_at d r) (place t r)

-- a place that is offered what follows where its run waits, and nothing where it is taken
offered_or_kept : {C : Type 0} (at_most : C → C → Bool) (u : ℕ) (b : Bool) (o : Option C) (p : Place C) → improved at_most u (cond b None o) p ≡ cond b p (improved at_most u o p)
offered_or_kept at_most u true o p = refl
offered_or_kept at_most u false o p = refl

pub relaxed_is : {C : Type 0} (k : Kind C) (rule : Rule) (m : List Run) (d : List Bool) (u : ℕ) (c : C) (t : List (Place C)) (r : ℕ) (o o' : Option C) (p : Place C) (x y : Run)
    → u < length m → r < length m → o ≡ follow_cost k rule (get_or m u x) (get_or m r y) c → o' ≡ cond (taken_at d r) None o → p ≡ place t r → improved k.at_most u o' p ≡ relaxed k rule m d u c t r
relaxed_is {C} k rule m d u c t r o o' p x y u-in r-in offer waits was =
    let asked : o ≡ follow_cost k rule (run_at m u) (run_at m r) c = offer ∙ ap (λ (z : Run). follow_cost k rule z (get_or m r y) c) (get_or_default m u x not_laid u-in) ∙ ap (λ (z : Run). follow_cost k rule (run_at m u) z c) (get_or_default m r y not_laid r-in) in
    ap (λ (z : Option C). improved k.at_most u z p) (waits ∙ ap (cond (taken_at d r) None) asked)
    ∙ ap (improved k.at_most u (cond (taken_at d r) None (follow_cost k rule (run_at m u) (run_at m r) c))) was
    ∙ offered_or_kept k.at_most u (taken_at d r) (follow_cost k rule (run_at m u) (run_at m r) c) (place t r)

-- a label stands in the table
pub label_in : {C : Type 0} (t : List (Place C)) (r : ℕ) (l : C) → label t r ≡ Some l → r < length t
label_in t r l is = elim (cases_lt r (length t)) [ inl lt ↦ lt | inr past ↦ absurd (none_some (label t r) l (ap cost_in (get_or_past t r None past)) is) ]

pub lowest_in : {C : Type 0} {at_most : C → C → Bool} {t : List (Place C)} {d : List Bool} {n u : ℕ} {c : C} → Lowest at_most t d n u c → u < length t
lowest_in {C} {at_most} {t} {d} {n} {u} {c} low = label_in t u c low.labelled

-- what the look at the places below n has found: nothing, or a run with the lowest label
abbrev pub Best : {C : Type 0} → (C → C → Bool) → List (Place C) → List Bool → (n : ℕ) → Option (Waiting C) → Type 0
Best at_most t d n found = MatchOption found (NoneWaits t d n) (λ x. Lowest at_most t d n x.run x.cost)

module _ {C : Type 0} {k : Kind C} (laws : Lawful k) (t : List (Place C)) (d : List Bool) (n : ℕ) where
  -- the lowest below n, with one look more
  lowest_more : (u : ℕ) (c : C) → ((l : C) → taken_at d n ≡ false → label t n ≡ Some l → Le k c l) → Lowest k.at_most t d n u c → Lowest k.at_most t d (n + 1) u c
  lowest_more u c here low = record {
    waits = low.waits;
    labelled = low.labelled;
    lowest = λ r l h. below_more (λ (r : ℕ). (l : C) → taken_at d r ≡ false → label t r ≡ Some l → Le k c l) n (λ r h l. low.lowest r l h) here r h l;
  }

  -- n does not wait
  pub best_skip : (found : Option (Waiting C)) → ((l : C) → taken_at d n ≡ false → label t n ≡ Some l → ⊥) → Best k.at_most t d n found → Best k.at_most t d (n + 1) found
  best_skip None out best = λ r l h. below_more (λ (r : ℕ). (l : C) → taken_at d r ≡ false → label t r ≡ Some l → ⊥) n (λ r h l. best r l h) out r h l
  best_skip (Some x) out best = lowest_more x.run x.cost (λ l f is. absurd (out l f is)) best

  -- n waits with a label that is not below the best
  pub best_keep : (found : Option (Waiting C)) (low : Option C) (l : C) → low ≡ option_map (λ (x : Waiting C). x.cost) found → lower k.at_most l low ≡ false → label t n ≡ Some l → Best k.at_most t d n found → Best k.at_most t d (n + 1) found
  best_keep None low l so after at best = absurd (both_ways (lower k.at_most l low) after (ap (lower k.at_most l) so))
  best_keep (Some x) low l so after at best =
      let under : Le k x.cost l = not-false (k.at_most x.cost l) (sym (ap (lower k.at_most l) so) ∙ after) in
      lowest_more x.run x.cost (λ y f is. (let same : l ≡ y = cc in subst (λ (z : C). Le k x.cost z) same under)) best

  -- n waits with a label that is below the best, or is the first
  pub best_take : (found : Option (Waiting C)) (low : Option C) (l : C) → low ≡ option_map (λ (x : Waiting C). x.cost) found → lower k.at_most l low ≡ true → taken_at d n ≡ false → label t n ≡ Some l → Best k.at_most t d n found → Best k.at_most t d (n + 1) (Some (record { run = n; cost = l }))
  best_take found low l so before waits at best =
      lowest_more n l (λ y f is. (let same : l ≡ y = cc in subst (λ (z : C). Le k l z) same (le_refl laws l))) (record { waits = waits; labelled = at; lowest = under found (sym (ap (lower k.at_most l) so) ∙ before) best })
    where
      under : (found : Option (Waiting C)) → lower k.at_most l (option_map (λ (x : Waiting C). x.cost) found) ≡ true → Best k.at_most t d n found → (r : ℕ) (y : C) → r < n → taken_at d r ≡ false → label t r ≡ Some y → Le k l y
      under None before best r y h f is = absurd (best r y h f is)
      under (Some x) before best r y h f is = laws.trans l x.cost y (le_flip laws x.cost l (not-true (k.at_most x.cost l) before)) (best.lowest r y h f is)

-- how many runs are not taken
abbrev pub waiting : List Bool → ℕ
waiting [] = 0
waiting (true ∷ d) = waiting d
waiting (false ∷ d) = suc (waiting d)

pub waiting_falls : (d : List Bool) (u : ℕ) → u < length d → taken_at d u ≡ false → waiting (set d u true) < waiting d
waiting_falls [] u h f = absurd (omega arith)
waiting_falls (true ∷ d) zero h f = absurd (both_ways true f refl)
waiting_falls (false ∷ d) zero h f = omega arith
waiting_falls (true ∷ d) (suc u) h f = waiting_falls d u (omega arith) f
waiting_falls (false ∷ d) (suc u) h f = let i = waiting_falls d u (omega arith) f in omega arith

-- a list that has the same everywhere has it past its end too
pub same_everywhere : {A : Type 0} (n r : ℕ) (d : A) → get_or (replicate n d) r d ≡ d
same_everywhere n r d = elim (cases_lt r n) [
  | inl lt ↦ get_or-replicate n r d d lt
  | inr ge ↦ get_or_past (replicate n d) r d (let e = length-replicate n d in omega arith)
]

-- one turn of the search
pub turn_more : {C : Type 0} (k : Task C) → Lawful k.kind → (t t' : List (Place C)) (d : List Bool) (u : ℕ) (c : C) → u < length d → Lowest k.kind.at_most t d (length t) u c → Relaxed k.kind k.rule k.runs (set d u true) u c t t' → Good (net k) t (taken_at d) → Good (net k) t' (taken_at (set d u true))
turn_more k laws t t' d u c within low new good = good_after (net_laws k laws) good (record {
  waits = low.waits;
  labelled = low.labelled;
  lowest = λ r l f is. low.lowest r l (label_in t r l is) f is;
  here = get_or-set_same d u true false within;
  others = λ r ne. get_or-set_other d u r true false ne;
  now = new;
})
