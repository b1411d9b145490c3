-- Following the runs before back along a walk.
use Rattle.std.proofs.Common.{◌≡◌, ℕ, zero, suc, ◌+◌, ◌-◌, ◌<◌, ◌≤◌, List, [], ◌∷◌, length, get_or, drop, set, Some, None, Option, unwrap_or, sym, refl, ap, ◌∙◌, subst, arith}
use Rattle.std.specs.List.{AllByRecursion as All}
use Rattle.std.proofs.lemmas.List.{drop_all, drop-set, drop_more}
use Rattle.walks.specs.Cheapest.{last}
use Rattle.walks.proofs.Few.{few}
use Rattle.routing.specs.Tables.{Place, place, reached, Linked}
use Rattle.routing.specs.Chains.{before, Chain}
use Rattle.routing.proofs.Places.{in_table}

-- the run in front of place i of the walk w, before whose first run stands b
abbrev in_front : Option ℕ → List ℕ → ℕ → Option ℕ
in_front b w zero = b
in_front b w (suc i) = Some (get_or w i 0)

in_front_next : (r : ℕ) (w : List ℕ) (i : ℕ) → in_front (Some r) w i ≡ Some (get_or (r ∷ w) i 0)
in_front_next r w zero = refl
in_front_next r w (suc i) = refl

-- the last run stands at the last place
last_at : (w : List ℕ) (r : ℕ) → last w ≡ Some r → (i : ℕ) × (i + 1 ≡ length w) × (get_or w i 0 ≡ r)
last_at [] r is = let z : ◌≡◌ {A = ℕ} 0 1 = cc in absurd (omega arith)
last_at (q ∷ []) r is = (0, refl, cc)
last_at (q ∷ (s ∷ w)) r is = let e = last_at (s ∷ w) r is in (suc e.0, omega (arith, e.1), e.2)

module _ {C : Type 0} (t : List (Place C)) where
  linked_at : (b : Option ℕ) (w : List ℕ) (i : ℕ) → i < length w → Linked t b w → (c : C) × (place t (get_or w i 0) ≡ reached c (in_front b w i))
  linked_at b [] i lt l = absurd (omega arith)
  linked_at b (r ∷ w) zero lt (c, is, rest) = (c, is)
  linked_at b (r ∷ w) (suc i) lt (c, is, rest) =
      let e = linked_at (Some r) w i (omega arith) rest in
      (e.0, e.1 ∙ ap (reached e.0) (in_front_next r w i))

  all_in_table : (b : Option ℕ) (w : List ℕ) → Linked t b w → All (λ r. r < length t) w
  all_in_table b [] l = tt
  all_in_table b (r ∷ w) (c, is, rest) = (in_table t r c b is, all_in_table (Some r) w rest)

-- the last n runs of the walk w begin with the run `at`
pub record Stands (w : List ℕ) (at n : ℕ) : Type 0 where
  pub front : ℕ
  pub rest : front + n ≡ length w
  pub is : get_or w front 0 ≡ at

-- from place i on the list holds the walk w, whose run before these is `at`
pub record Written (w list : List ℕ) (i at : ℕ) : Type 0 where
  pub next : (j : ℕ) → j + 1 ≡ i → get_or w j 0 ≡ at
  pub rest : drop i list ≡ drop i w

module _ {C : Type 0} (t : List (Place C)) (end : ℕ) (w : List ℕ) (chain : Chain t end w) where
  -- a walk that repeats no run has no more runs than the table has places
  pub short : length w ≤ length t
  short = few (length t) w chain.once (all_in_table t None w chain.linked)

  -- the run at place i has a place in the table, which tells the run in front
  found_at : (i at : ℕ) → i < length w → get_or w i 0 ≡ at → (at < length t) × (before (place t at) ≡ in_front None w i)
  found_at i at lt is =
      let e = linked_at t None w i lt chain.linked in
      let here = ap (place t) (sym is) ∙ e.1 in
      (in_table t at e.0 _ here, ap before here)

  pub stands_end : Stands w end 1
  stands_end = let e = last_at w end chain.ends in record { front = e.0; rest = e.1; is = e.2 }

  module _ (at n : ℕ) (some : 0 < n) (here : Stands w at n) where
    found : (at < length t) × (before (place t at) ≡ in_front None w here.front)
    found = found_at here.front at (omega (arith, here.rest)) here.is

    pub stands_in : at < length t
    stands_in = found.0

    -- one run back
    pub stands_back : (q : ℕ) → Some q ≡ before (place t at) → Stands w q (n + 1)
    stands_back q e = go here.front here.rest (sym (e ∙ found.1))
      where
        go : (i : ℕ) → i + n ≡ length w → in_front None w i ≡ Some q → Stands w q (n + 1)
        go zero r f = let z : ◌≡◌ {A = ℕ} 0 1 = cc in absurd (omega arith)
        go (suc i) r f = record { front = i; rest = omega arith; is = cc }

    -- at the first run the whole walk is counted
    pub stands_first : None ≡ before (place t at) → n ≡ length w
    stands_first e = go here.front here.rest (sym (e ∙ found.1))
      where
        go : (i : ℕ) → i + n ≡ length w → in_front None w i ≡ None → n ≡ length w
        go zero r f = omega arith
        go (suc i) r f = let z : ◌≡◌ {A = ℕ} 0 1 = cc in absurd (omega arith)

  -- nothing is written yet
  pub written_none : (list : List ℕ) (n : ℕ) → length list ≡ n → length w ≡ n → Written w list n end
  written_none list n l m =
      let e = last_at w end chain.ends in
      record {
        next = λ j h. (let same : j ≡ e.0 = omega (arith, e.1) in ap (λ (i : ℕ). get_or w i 0) same ∙ e.2);
        rest = drop_all n list (omega arith) ∙ sym (drop_all n w (omega arith));
      }

  module _ (list : List ℕ) (i at : ℕ) (some : 0 < i) (le : i ≤ length w) (here : Written w list i at) where
    at_is : get_or w (i - 1) 0 ≡ at
    at_is = here.next (i - 1) (omega arith)

    pub written_in : at < length t
    written_in = (found_at (i - 1) at (omega arith) at_is).0

    -- one run more
    pub written_more : length w ≡ length list → Written w (set list (i - 1) at) (i - 1) (unwrap_or (before (place t at)) at)
    written_more long = record {
      next = λ j h. sym (ap (λ (b : Option ℕ). unwrap_or b at) (found_at (i - 1) at (omega arith) at_is).1 ∙ go (i - 1) j h);
      rest = more (i - 1) (omega arith) at_is (subst (λ (k : ℕ). drop k list ≡ drop k w) (step i some) here.rest);
    }
      where
        step : (k : ℕ) → 0 < k → k ≡ (k - 1) + 1
        step k h = omega arith

        go : (k j : ℕ) → j + 1 ≡ k → unwrap_or (in_front None w k) at ≡ get_or w j 0
        go zero j h = absurd (omega arith)
        go (suc k) j h = let same : k ≡ j = omega arith in ap (λ (i : ℕ). get_or w i 0) same

        more : (k : ℕ) → k < length list → get_or w k 0 ≡ at → drop (k + 1) list ≡ drop (k + 1) w → drop k (set list k at) ≡ drop k w
        more k lt is rest = drop-set list k at lt ∙ ap (λ (x : List ℕ). at ∷ x) rest ∙ ap (λ (x : ℕ). x ∷ drop (k + 1) w) (sym is) ∙ sym (drop_more w k 0 (omega arith))
