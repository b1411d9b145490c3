-- The trail of a label: the walk that the table gives, followed back, with all but its last run taken.
use Rattle.std.proofs.Common.{◌≡◌, ℕ, Bool, true, false, List, [], ◌∷◌, ◌++◌, Some, None, Option, sym, ap, ◌∙◌}
use Rattle.std.proofs.lemmas.Bool.{both_ways}
use Rattle.walks.specs.Walks.{Missing, NoRepeat}
use Rattle.walks.proofs.Net.{Net, Way, way_more}
use Rattle.routing.specs.Tables.{Place, place, reached, Linked}

-- every run of the list is taken
abbrev pub AllTaken : (ℕ → Bool) → List ℕ → Type 0
AllTaken D [] = Unit {0}
AllTaken D (q ∷ v) = (D q ≡ true) × AllTaken D v

-- the table t gives this way to the run r, through the runs of v
pub record Trail {C : Type 0} (N : Net C) (t : List (Place C)) (D : ℕ → Bool) (v : List ℕ) (r : ℕ) (c : C) : Type 0 where
  pub way : Way N (v ++ r ∷ []) r c
  pub linked : Linked t None (v ++ r ∷ [])
  pub apart : NoRepeat (v ++ r ∷ [])
  pub before : AllTaken D v

all_stay : (D D' : ℕ → Bool) → ((q : ℕ) → D q ≡ true → D' q ≡ true) → (v : List ℕ) → AllTaken D v → AllTaken D' v
all_stay D D' stays [] all = tt
all_stay D D' stays (q ∷ v) (here, all) = (stays q here, all_stay D D' stays v all)

all_more : (D : ℕ → Bool) (v : List ℕ) (u : ℕ) → AllTaken D v → D u ≡ true → AllTaken D (v ++ u ∷ [])
all_more D [] u all here = (here, tt)
all_more D (q ∷ v) u (h, all) here = (h, all_more D v u all here)

-- a run that is not taken does not stand among taken ones
off : (D : ℕ → Bool) (r : ℕ) (v : List ℕ) → D r ≡ false → AllTaken D v → Missing r v
off D r [] waits all = tt
off D r (q ∷ v) waits (here, all) = (λ e. both_ways (D r) waits (ap D e ∙ here), off D r v waits all)

missing_more : (q : ℕ) (v : List ℕ) (r : ℕ) → Missing q v → (q ≡ r → ⊥) → Missing q (v ++ r ∷ [])
missing_more q [] r out ne = (ne, tt)
missing_more q (s ∷ v) r (h, out) ne = (h, missing_more q v r out ne)

apart_more : (v : List ℕ) (r : ℕ) → NoRepeat v → Missing r v → NoRepeat (v ++ r ∷ [])
apart_more [] r apart out = (tt, tt)
apart_more (q ∷ v) r (h, apart) (ne, out) = (missing_more q v r h (λ e. ne (sym e)), apart_more v r apart out)

module _ {C : Type 0} where
  -- one run more, with the last one as its run before
  linked_more : (t : List (Place C)) (b : Option ℕ) (v : List ℕ) (u r : ℕ) (c : C) → Linked t b (v ++ u ∷ []) → place t r ≡ reached c (Some u) → Linked t b ((v ++ u ∷ []) ++ r ∷ [])
  linked_more t b [] u r c (a, is, end) at = (a, is, (c, at, tt))
  linked_more t b (q ∷ v) u r c (a, is, rest) at = (a, is, linked_more t (Some q) v u r c rest at)

  -- a table that keeps the places of taken runs keeps what they link
  linked_kept : (t t' : List (Place C)) (D : ℕ → Bool) → ((q : ℕ) → D q ≡ true → place t' q ≡ place t q) → (b : Option ℕ) (v : List ℕ) (r : ℕ) → place t' r ≡ place t r → AllTaken D v → Linked t b (v ++ r ∷ []) → Linked t' b (v ++ r ∷ [])
  linked_kept t t' D kept b [] r same all (a, is, end) = (a, same ∙ is, tt)
  linked_kept t t' D kept b (q ∷ v) r same (here, all) (a, is, rest) = (a, kept q here ∙ is, linked_kept t t' D kept (Some q) v r same all rest)

  module _ {N : Net C} {t t' : List (Place C)} {D D' : ℕ → Bool} (stays : (q : ℕ) → D q ≡ true → D' q ≡ true) (kept : (q : ℕ) → D' q ≡ true → place t' q ≡ place t q) where
    -- the trail of a run whose place is kept
    pub trail_kept : (v : List ℕ) (r : ℕ) (c : C) → place t' r ≡ place t r → Trail N t D v r c → Trail N t' D' v r c
    trail_kept v r c same trail =
        let all = all_stay D D' stays v trail.before in
        record { way = trail.way; linked = linked_kept t t' D' kept None v r same all trail.linked; apart = trail.apart; before = all }

    -- the trail of a run that was labelled from the run u, which is taken now
    pub trail_more : (v : List ℕ) (u r : ℕ) (b c : C) → D' u ≡ true → D' r ≡ false → N.after u r b ≡ Some c → place t' r ≡ reached c (Some u) → Trail N t D v u b → Trail N t' D' (v ++ u ∷ []) r c
    trail_more v u r b c here waits go at trail =
        let now = trail_kept v u b (kept u here) trail in
        let all = all_more D' v u now.before here in
        record {
          way = way_more N (v ++ u ∷ []) u r b c now.way go;
          linked = linked_more t' None v u r c now.linked at;
          apart = apart_more (v ++ u ∷ []) r now.apart (off D' r (v ++ u ∷ []) waits all);
          before = all;
        }
