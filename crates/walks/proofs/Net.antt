-- The abstract problem of the search, and why labels that are started and closed bound every way over it.
-- Nothing here knows what a map, a rule or a kind is.
use Rattle.std.proofs.Common.{◌≡◌, ℕ, Bool, true, false, ◌⊎◌, List, [], ◌∷◌, ◌++◌, Some, Option, refl, ap, ◌∙◌, subst, inl, inr}
use Rattle.std.proofs.lemmas.Bool.{both_ways}

pub record Net (C : Type 0) : Type 0 where
  -- the first cost is not above the second
  pub at_most : C → C → Bool
  -- which values are costs
  pub fits : C → Bool
  -- the cost of a run that begins a way, if it may
  pub first : ℕ → Option C
  -- what the cost c of a way that ends with q becomes once r follows, if it may
  pub after : (q r : ℕ) → C → Option C

abbrev pub Below : {C : Type 0} → Net C → C → C → Type 0
Below N a b = N.at_most a b ≡ true

pub record LawfulNet {C : Type 0} (N : Net C) : Type 0 where
  pub total : (a b : C) → Below N a b ⊎ Below N b a
  pub trans : (a b c : C) → Below N a b → Below N b c → Below N a c
  pub first_fits : (r : ℕ) (c : C) → N.first r ≡ Some c → N.fits c ≡ true
  pub after_fits : (q r : ℕ) (a c : C) → N.fits a ≡ true → N.after q r a ≡ Some c → N.fits c ≡ true
  -- a step never lowers the cost, and from a lower cost it may be taken too and keeps the order
  pub after_up : (q r : ℕ) (a c : C) → N.fits a ≡ true → N.after q r a ≡ Some c → Below N a c
  pub after_keeps : (q r : ℕ) (a b c : C) → Below N a b → N.after q r b ≡ Some c → (d : C) × (N.after q r a ≡ Some d) × Below N d c

-- the runs of w follow the run q, which was reached at cost b; the last of them is r, at cost c
abbrev pub Onward : {C : Type 0} → Net C → (q : ℕ) → (b : C) → (w : List ℕ) → (r : ℕ) → (c : C) → Type 0
Onward N q b [] r c = (q ≡ r) × (b ≡ c)
Onward {C} N q b (s ∷ w) r c = (d : C) × (N.after q s b ≡ Some d) × Onward N s d w r c

-- the list is a way that ends with r, at cost c
abbrev pub Way : {C : Type 0} → Net C → List ℕ → (r : ℕ) → (c : C) → Type 0
Way N [] r c = ⊥
Way {C} N (q ∷ w) r c = (b : C) × (N.first q ≡ Some b) × Onward N q b w r c

-- r has a label, and it is not above c
abbrev pub Has : {C : Type 0} → Net C → (ℕ → Option C) → (r : ℕ) → C → Type 0
Has {C} N L r c = (l : C) × (L r ≡ Some l) × Below N l c

abbrev pub Starts : {C : Type 0} → Net C → (ℕ → Option C) → Type 0
Starts {C} N L = (r : ℕ) (c : C) → N.first r ≡ Some c → Has N L r c

abbrev pub Closes : {C : Type 0} → Net C → (ℕ → Option C) → Type 0
Closes {C} N L = (q r : ℕ) (a c : C) → L q ≡ Some a → N.after q r a ≡ Some c → Has N L r c

module _ {C : Type 0} {N : Net C} (laws : LawfulNet N) where
  pub below_refl : (a : C) → Below N a a
  below_refl a = elim (laws.total a a) [ inl h ↦ h | inr h ↦ h ]

  pub below_flip : (a b : C) → N.at_most a b ≡ false → Below N b a
  below_flip a b h = elim (laws.total a b) [ inl t ↦ absurd (both_ways (N.at_most a b) h t) | inr t ↦ t ]

  onward_fits : (q : ℕ) (b : C) (w : List ℕ) (r : ℕ) (c : C) → N.fits b ≡ true → Onward N q b w r c → N.fits c ≡ true
  onward_fits q b [] r c fit (same, cost) = subst (λ (x : C). N.fits x ≡ true) cost fit
  onward_fits q b (s ∷ w) r c fit (d, go, on) = onward_fits s d w r c (laws.after_fits q s b d fit go) on

  pub way_fits : (w : List ℕ) (r : ℕ) (c : C) → Way N w r c → N.fits c ≡ true
  way_fits [] r c way = absurd way
  way_fits (q ∷ w) r c (b, go, on) = onward_fits q b w r c (laws.first_fits q b go) on

  module _ {L : ℕ → Option C} (starts : Starts N L) (closes : Closes N L) where
    onward_bound : (q : ℕ) (b : C) (w : List ℕ) (r : ℕ) (c : C) → Has N L q b → Onward N q b w r c → Has N L r c
    onward_bound q b [] r c has (same, cost) = subst (λ (x : C). Has N L r x) cost (subst (λ (x : ℕ). Has N L x b) same has)
    onward_bound q b (s ∷ w) r c (l, is, low) (d, go, on) =
        let n = laws.after_keeps q s l b d low go in
        let m = closes q s l n.0 is n.1 in
        onward_bound s d w r c (m.0, m.1, laws.trans m.0 n.0 d m.2 n.2) on

    -- labels that are started and closed bound every way
    pub bound : (w : List ℕ) (r : ℕ) (c : C) → Way N w r c → Has N L r c
    bound [] r c way = absurd way
    bound (q ∷ w) r c (b, go, on) = onward_bound q b w r c (starts q b go) on

-- a way goes on by a run that may follow its last
onward_more : {C : Type 0} (N : Net C) (q : ℕ) (b : C) (w : List ℕ) (r s : ℕ) (c d : C) → Onward N q b w r c → N.after r s c ≡ Some d → Onward N q b (w ++ s ∷ []) s d
onward_more {C} N q b [] r s c d (same, cost) go = (d, ap (λ (x : ℕ). N.after x s b) same ∙ ap (λ (x : C). N.after r s x) cost ∙ go, (refl, refl))
onward_more N q b (p ∷ w) r s c d (a, step, on) go = (a, step, onward_more N p a w r s c d on go)

pub way_more : {C : Type 0} (N : Net C) (w : List ℕ) (r s : ℕ) (c d : C) → Way N w r c → N.after r s c ≡ Some d → Way N (w ++ s ∷ []) s d
way_more N [] r s c d way go = absurd way
way_more N (q ∷ w) r s c d (b, begins, on) go = (b, begins, onward_more N q b w r s c d on go)
