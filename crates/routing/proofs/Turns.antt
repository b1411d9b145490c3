-- What the search keeps from turn to turn, and why its table comes out right.
use Rattle.std.proofs.Common.{◌≡◌, ℕ, Bool, true, false, cond, not, ◌⊎◌, List, [], ◌∷◌, ◌++◌, Some, None, Option, sym, refl, ap, ◌∙◌, subst, inl, inr}
use Rattle.std.proofs.lemmas.Bool.{cases_eq, cases_Bool, both_ways}
use Rattle.walks.specs.Kinds.{Lawful, Le}
use Rattle.walks.specs.Cheapest.{Task, price, EndsWith}
use Rattle.walks.proofs.Net.{Net, LawfulNet, Below, Has, Starts, Closes, bound, below_refl, below_flip, way_fits}
use Rattle.walks.proofs.Ways.{net, net_laws, walk_way, way_walk, none_some}
use Rattle.routing.specs.Tables.{Place, place, reached, TablePlace, TableHolds}
use Rattle.routing.specs.Steps.{cost_in, label, begun, lower, improved}
use Rattle.routing.proofs.Trails.{Trail, trail_kept, trail_more}

pub record Good {C : Type 0} (N : Net C) (t : List (Place C)) (D : ℕ → Bool) : Type 0 where
  -- every run that may begin has a label not above its beginning
  pub started : Starts N (label t)
  -- a taken run has a label, and every run that may follow it has one not above following from it
  pub labelled : (q : ℕ) → D q ≡ true → (a : C) × (label t q ≡ Some a)
  pub closed : (q r : ℕ) (a c : C) → D q ≡ true → label t q ≡ Some a → N.after q r a ≡ Some c → Has N (label t) r c
  -- no label of a taken run is above one of a waiting run
  pub ordered : (q r : ℕ) (a c : C) → D q ≡ true → D r ≡ false → label t q ≡ Some a → label t r ≡ Some c → Below N a c
  -- a label is the cost of a way that the table gives, through taken runs
  pub traced : (r : ℕ) (c : C) → label t r ≡ Some c → (v : List ℕ) × Trail N t D v r c

-- one turn: the run u, reached at cost c, is taken, and every waiting run is offered what follows from it
pub record Turn {C : Type 0} (N : Net C) (t t' : List (Place C)) (D D' : ℕ → Bool) (u : ℕ) (c : C) : Type 0 where
  pub waits : D u ≡ false
  pub labelled : label t u ≡ Some c
  pub lowest : (r : ℕ) (l : C) → D r ≡ false → label t r ≡ Some l → Below N c l
  pub here : D' u ≡ true
  pub others : (r : ℕ) → (r ≡ u → ⊥) → D' r ≡ D r
  pub now : (r : ℕ) → place t' r ≡ cond (D' r) (place t r) (improved N.at_most u (N.after u r c) (place t r))

module _ {C : Type 0} {N : Net C} (laws : LawfulNet N) where
  -- a place that is improved has a label not above the one it had, and not above the offer
  lower_keeps : (u : ℕ) (c : C) (p : Place C) (l x : C) → cost_in p ≡ Some l → Below N l x → (d : C) × (cost_in (cond (lower N.at_most c (cost_in p)) (reached c (Some u)) p) ≡ Some d) × Below N d x
  lower_keeps u c None l x is low = absurd (none_some None l refl is)
  lower_keeps u c (Some p) l x is low = let same : p.cost ≡ l = cc in go (N.at_most p.cost c) refl same
    where
      go : (v : Bool) → N.at_most p.cost c ≡ v → p.cost ≡ l → (d : C) × (cost_in (cond (not v) (reached c (Some u)) (Some p)) ≡ Some d) × Below N d x
      go true le same = (l, is, low)
      go false le same = (c, refl, laws.trans c l x (subst (λ (z : C). Below N c z) same (below_flip laws p.cost c le)) low)

  improved_keeps : (u : ℕ) (o : Option C) (p : Place C) (l x : C) → cost_in p ≡ Some l → Below N l x → (d : C) × (cost_in (improved N.at_most u o p) ≡ Some d) × Below N d x
  improved_keeps u None p l x is low = (l, is, low)
  improved_keeps u (Some c) p l x is low = lower_keeps u c p l x is low

  improved_meets : (u : ℕ) (c : C) (p : Place C) → (d : C) × (cost_in (improved N.at_most u (Some c) p) ≡ Some d) × Below N d c
  improved_meets u c None = (c, refl, below_refl laws c)
  improved_meets u c (Some p) = go (N.at_most p.cost c) refl
    where
      go : (v : Bool) → N.at_most p.cost c ≡ v → (d : C) × (cost_in (cond (not v) (reached c (Some u)) (Some p)) ≡ Some d) × Below N d c
      go true le = (p.cost, refl, le)
      go false le = (c, refl, below_refl laws c)

-- an improved place is the old one, or holds the offer
improved_from : {C : Type 0} (at_most : C → C → Bool) (u : ℕ) (o : Option C) (p : Place C) (d : C) → cost_in (improved at_most u o p) ≡ Some d → (improved at_most u o p ≡ p) ⊎ ((o ≡ Some d) × (improved at_most u o p ≡ reached d (Some u)))
improved_from at_most u None p d is = inl refl
improved_from {C} at_most u (Some c) p d is = go (lower at_most c (cost_in p)) is
  where
    go : (v : Bool) → cost_in (cond v (reached c (Some u)) p) ≡ Some d → (cond v (reached c (Some u)) p ≡ p) ⊎ ((Some c ≡ Some d) × (cond v (reached c (Some u)) p ≡ reached d (Some u)))
    go true is = inr (is, (let same : c ≡ d = cc in ap (λ (z : C). reached z (Some u)) same))
    go false is = inl refl

some_same : {C : Type 0} (o : Option C) (a c : C) → o ≡ Some a → o ≡ Some c → a ≡ c
some_same o a c h k = cc

module _ {C : Type 0} {N : Net C} (laws : LawfulNet N) {t t' : List (Place C)} {D D' : ℕ → Bool} {u : ℕ} {c : C} (good : Good N t D) (turn : Turn N t t' D D' u c) where
  -- what is taken now was taken before, or is u
  taken_from : (r : ℕ) → D' r ≡ true → (r ≡ u) ⊎ (D r ≡ true)
  taken_from r h = elim (cases_eq r u) [ inl e ↦ inl e | inr ne ↦ inr (sym (turn.others r ne) ∙ h) ]

  stays : (r : ℕ) → D r ≡ true → D' r ≡ true
  stays r h = elim (cases_eq r u) [ inl e ↦ ap D' e ∙ turn.here | inr ne ↦ turn.others r ne ∙ h ]

  waited : (r : ℕ) → D' r ≡ false → D r ≡ false
  waited r h = elim (cases_Bool (D r)) [ inl t ↦ absurd (both_ways (D' r) h (stays r t)) | inr f ↦ f ]

  kept : (r : ℕ) → D' r ≡ true → place t' r ≡ place t r
  kept r h = turn.now r ∙ ap (λ (b : Bool). cond b (place t r) (improved N.at_most u (N.after u r c) (place t r))) h

  offered : (r : ℕ) → D' r ≡ false → place t' r ≡ improved N.at_most u (N.after u r c) (place t r)
  offered r h = turn.now r ∙ ap (λ (b : Bool). cond b (place t r) (improved N.at_most u (N.after u r c) (place t r))) h

  from : (r : ℕ) (d : C) → label t' r ≡ Some d → (place t' r ≡ place t r) ⊎ ((D' r ≡ false) × (N.after u r c ≡ Some d) × (place t' r ≡ reached d (Some u)))
  from r d is = elim (cases_Bool (D' r)) [
    | inl h ↦ inl (kept r h)
    | inr f ↦ (let e = offered r f in
        elim (improved_from N.at_most u (N.after u r c) (place t r) d (ap cost_in (sym e) ∙ is)) [ inl old ↦ inl (e ∙ old) | inr new ↦ inr (f, new.0, e ∙ new.1) ])
  ]

  not_worse : (r : ℕ) (x : C) → Has N (label t) r x → Has N (label t') r x
  not_worse r x (l, is, low) = elim (cases_Bool (D' r)) [
    | inl h ↦ (l, ap cost_in (kept r h) ∙ is, low)
    | inr f ↦ (let m = improved_keeps laws u (N.after u r c) (place t r) l x is low in (m.0, ap cost_in (offered r f) ∙ m.1, m.2))
  ]

  fit : N.fits c ≡ true
  fit = let m = good.traced u c turn.labelled in way_fits laws (m.0 ++ u ∷ []) u c m.1.way

  -- no taken label is above u's
  below : (q : ℕ) (a : C) → D' q ≡ true → label t q ≡ Some a → Below N a c
  below q a h is = elim (taken_from q h) [
    | inl e ↦ (let same : c ≡ a = some_same (label t q) c a (ap (label t) e ∙ turn.labelled) is in subst (λ (x : C). Below N x c) same (below_refl laws c))
    | inr before ↦ good.ordered q u a c before turn.waits is turn.labelled
  ]

  labelled' : (q : ℕ) → D' q ≡ true → (a : C) × (label t' q ≡ Some a)
  labelled' q h = elim (taken_from q h) [
    | inl e ↦ (c, ap cost_in (kept q h) ∙ ap (label t) e ∙ turn.labelled)
    | inr before ↦ (let m = good.labelled q before in (m.0, ap cost_in (kept q h) ∙ m.1))
  ]

  -- what follows from u is met: by the offer, or by a label that is not above u's
  met : (r : ℕ) (x : C) → N.after u r c ≡ Some x → Has N (label t') r x
  met r x go = elim (cases_Bool (D' r)) [
    | inl h ↦ (let m = labelled' r h in
        (m.0, m.1, laws.trans m.0 c x (below r m.0 h (ap cost_in (sym (kept r h)) ∙ m.1)) (laws.after_up u r c x fit go)))
    | inr f ↦ (let m = improved_meets laws u x (place t r) in
        (m.0, ap cost_in (offered r f ∙ ap (λ (o : Option C). improved N.at_most u o (place t r)) go) ∙ m.1, m.2))
  ]

  closed' : (q r : ℕ) (a x : C) → D' q ≡ true → label t' q ≡ Some a → N.after q r a ≡ Some x → Has N (label t') r x
  closed' q r a x h is go =
      let was : label t q ≡ Some a = ap cost_in (sym (kept q h)) ∙ is in
      elim (taken_from q h) [
        | inl e ↦ (let same : c ≡ a = some_same (label t q) c a (ap (label t) e ∙ turn.labelled) was in
            met r x (ap (λ (y : ℕ). N.after y r c) (sym e) ∙ ap (λ (y : C). N.after q r y) same ∙ go))
        | inr before ↦ not_worse r x (good.closed q r a x before was go)
      ]

  ordered' : (q r : ℕ) (a d : C) → D' q ≡ true → D' r ≡ false → label t' q ≡ Some a → label t' r ≡ Some d → Below N a d
  ordered' q r a d h f is-q is-r =
      let high : Below N c d = elim (from r d is-r) [
        | inl old ↦ turn.lowest r d (waited r f) (ap cost_in (sym old) ∙ is-r)
        | inr new ↦ laws.after_up u r c d fit new.1
      ] in
      laws.trans a c d (below q a h (ap cost_in (sym (kept q h)) ∙ is-q)) high

  traced' : (r : ℕ) (d : C) → label t' r ≡ Some d → (v : List ℕ) × Trail N t' D' v r d
  traced' r d is = elim (from r d is) [
    | inl old ↦ (let m = good.traced r d (ap cost_in (sym old) ∙ is) in (m.0, trail_kept stays kept m.0 r d old m.1))
    | inr new ↦ (let m = good.traced u c turn.labelled in
        (m.0 ++ u ∷ [], trail_more stays kept m.0 u r c d turn.here new.0 new.1 new.2 m.1))
  ]

  -- taking a lowest waiting run keeps all
  pub good_after : Good N t' D'
  good_after = record { started = λ r x go. not_worse r x (good.started r x go); labelled = labelled'; closed = closed'; ordered = ordered'; traced = traced' }

begun_from : {C : Type 0} (o : Option C) (c : C) → cost_in (begun o) ≡ Some c → (o ≡ Some c) × (begun o ≡ reached c None)
begun_from None c is = absurd (none_some None c refl is)
begun_from {C} (Some a) c is = (is, (let same : a ≡ c = cc in ap (λ (x : C). reached x None) same))

-- before any run is taken
pub good_begun : {C : Type 0} (N : Net C) → LawfulNet N → (t : List (Place C)) (D : ℕ → Bool) → ((r : ℕ) → D r ≡ false) → ((r : ℕ) → place t r ≡ begun (N.first r)) → Good N t D
good_begun {C} N laws t D none places = record {
  started = λ r c go. (c, ap cost_in (places r) ∙ ap (λ (o : Option C). cost_in (begun o)) go, below_refl laws c);
  labelled = λ q h. absurd (both_ways (D q) (none q) h);
  closed = λ q r a c h is go. absurd (both_ways (D q) (none q) h);
  ordered = λ q r a c h f is-q is-r. absurd (both_ways (D q) (none q) h);
  traced = λ r c is. (let m = begun_from (N.first r) c (ap cost_in (sym (places r)) ∙ is) in
      ([], record { way = (c, m.0, (refl, refl)); linked = (c, places r ∙ m.1, tt); apart = (tt, tt); before = tt }));
}

-- once no labelled run waits, the table holds what it is to hold
module _ {C : Type 0} (k : Task C) (laws : Lawful k.kind) (t : List (Place C)) (D : ℕ → Bool) (good : Good (net k) t D) (done : (r : ℕ) (l : C) → D r ≡ false → label t r ≡ Some l → ⊥) where
  closes : Closes (net k) (label t)
  closes q r a c is go = elim (cases_Bool (D q)) [ inl h ↦ good.closed q r a c h is go | inr f ↦ absurd (done q a f is) ]

  least : (r : ℕ) (w : List ℕ) → EndsWith k r w → Has (net k) (label t) r (price k w)
  least r w ends = bound (net_laws k laws) good.started closes w r (price k w) (walk_way k w r ends)

  holds_at : (r : ℕ) (p : Place C) → place t r ≡ p → TablePlace k t r p
  holds_at r None is = λ w ends. (let m = least r w ends in none_some (label t r) m.0 (ap cost_in is) m.1)
  holds_at r (Some p) is =
      let c = p.cost in
      let m = good.traced r c (ap cost_in is) in
      let n = way_walk k (m.0 ++ r ∷ []) r c m.1.way in
      let low : (w : List ℕ) → EndsWith k r w → Le k.kind c (price k w) = λ w ends. (let h = least r w ends in
      subst (λ (x : C). Le k.kind x (price k w)) (some_same (label t r) h.0 c h.1 (ap cost_in is)) h.2) in
      (m.0 ++ r ∷ [], record { among = n.0; costs = n.1; least = low }, m.1.apart, m.1.linked)

  pub good_holds : TableHolds k t
  good_holds r in-runs = holds_at r (place t r) refl
