-- Labels that pass a computed test bound every legal walk to the mark from below.
use Rattle.std.proofs.Common.{◌≡◌, ℕ, zero, suc, ◌<◌, Bool, true, false, ◌&&◌, eqb, List, [], ◌∷◌, length, get_or, Some, None, Option, sym, refl, ap, ◌∙◌, inl, inr, arith}
use Rattle.std.proofs.lemmas.Bool.{and_parts, and_from, eq-eqb, cases_lt, false≢true}
use Rattle.std.proofs.lemmas.Bool.Decides.{Decides-below_and}
use Rattle.std.proofs.lemmas.List.{get_or_past}
use Rattle.walks.specs.Kinds.{Kind, Lawful, Le}
use Rattle.walks.specs.Walks.{run_at, onward}
use Rattle.walks.specs.Cheapest.{Task, price, LeadsTo}
use Rattle.walks.specs.Labels.{Started, Closed}
use Rattle.walks.proofs.Bound.{laid}
use Rattle.walks.proofs.Priced.{ends_with}
use Rattle.walks.proofs.Ways.{task_bound}
use Rattle.rehearsal.proofs.Tests.{walk?, decides_walk, legal?, decides_legal, leads?, decides_leads}

-- every number below n
abbrev each : (ℕ → Bool) → ℕ → Bool
each f zero = true
each f (suc n) = f n && each f n

each_at : (f : ℕ → Bool) (n : ℕ) → each f n ≡ true → (r : ℕ) → r < n → f r ≡ true
each_at f n = (Decides-below_and f (λ r. f r ≡ true) (each f) (λ r. (λ e. e, λ e. e)) refl (λ m. refl) n).0

-- if b then c
abbrev implies : Bool → Bool → Bool
implies true c = c
implies false c = true

implies_then : (b c : Bool) → implies b c ≡ true → b ≡ true → c ≡ true
implies_then true c t h = t
implies_then false c t h = absurd (false≢true h)

-- f of what is there, if anything is
abbrev when : {A : Type 0} → Option A → (A → Bool) → Bool
when None f = true
when (Some x) f = f x

when_some : {A : Type 0} (o : Option A) (f : A → Bool) (x : A) → when o f ≡ true → o ≡ Some x → f x ≡ true
when_some o f x t h = sym (ap (λ (z : Option _). when z f) h) ∙ t

-- a label that is there and not above c
abbrev low? : {C : Type 0} → Kind C → Option C → C → Bool
low? k None c = false
low? k (Some l) c = k.at_most l c

low_is : {C : Type 0} (k : Kind C) (o : Option C) (c : C) → low? k o c ≡ true → (l : C) × (o ≡ Some l) × Le k l c
low_is k None c t = absurd (false≢true t)
low_is k (Some l) c t = (l, refl, t)

abbrev label : {C : Type 0} → List (Option C) → ℕ → Option C
label ls r = get_or ls r None

-- Started and Closed, tested
abbrev started? : {C : Type 0} → Task C → List (Option C) → Bool
started? k ls = each (λ r. implies (leads? k (run_at k.runs r).head (r ∷ [])) (low? k.kind (label ls r) (price k (r ∷ [])))) (length k.runs)

abbrev follows? : {C : Type 0} → Task C → ℕ → ℕ → Bool
follows? k q r = walk? k.runs (run_at k.runs q).head (r ∷ []) (run_at k.runs r).head && legal? k.rule k.runs (q ∷ r ∷ [])

abbrev closed? : {C : Type 0} → Task C → List (Option C) → Bool
closed? k ls =
    each (λ q. when (label ls q) (λ c. each (λ r. implies (follows? k q r) (low? k.kind (label ls r) (onward k.kind k.rule k.runs c q (r ∷ [])))) (length k.runs))) (length ls)

-- what is so of each cost at which the labels reach the mark
abbrev marked? : {C : Type 0} → Task C → ℕ → List (Option C) → (C → Bool) → Bool
marked? k mark ls ok =
    implies (eqb k.home mark) (ok k.kind.start)
    && each (λ r. implies (eqb (run_at k.runs r).head mark) (when (label ls r) ok)) (length ls)

abbrev pub bounds? : {C : Type 0} → Task C → ℕ → List (Option C) → (C → Bool) → Bool
bounds? k mark ls ok = started? k ls && (closed? k ls && marked? k mark ls ok)

-- a run with a label stands in the list of labels
listed : {C : Type 0} (ls : List (Option C)) (r : ℕ) (l : C) → label ls r ≡ Some l → r < length ls
listed ls r l h = elim (cases_lt r (length ls)) [
  | inl lt ↦ lt
  | inr ge ↦ (let e = get_or_past ls r None ge in let z : ◌≡◌ {A = ℕ} 0 1 = cc in absurd (omega arith))
]

module _ {C : Type 0} (k : Task C) (laws : Lawful k.kind) (mark : ℕ) (ls : List (Option C)) (ok : C → Bool) (test : bounds? k mark ls ok ≡ true) where
  started : Started k (label ls)
  started r ends =
      let t = each_at _ (length k.runs) (and_parts (started? k ls) _ test).0 r (laid k.runs r ends.1.0.0) in
      low_is k.kind (label ls r) (price k (r ∷ [])) (implies_then _ _ t ((decides_leads k (run_at k.runs r).head (r ∷ [])).1 ends.1))

  closed : Closed k (label ls)
  closed q r c is (walk, legal) =
      let t = each_at _ (length ls) (and_parts (closed? k ls) _ (and_parts (started? k ls) _ test).1).0 q (listed ls q c is) in
      let u = each_at _ (length k.runs) (when_some (label ls q) _ c t is) r (laid k.runs r walk.0) in
      let f = and_from _ _ ((decides_walk k.runs (run_at k.runs q).head (r ∷ []) (run_at k.runs r).head).1 walk) ((decides_legal k.rule k.runs (q ∷ r ∷ [])).1 legal) in
      low_is k.kind (label ls r) (onward k.kind k.rule k.runs c q (r ∷ [])) (implies_then _ _ u f)

  marked : marked? k mark ls ok ≡ true
  marked = (and_parts (closed? k ls) (marked? k mark ls ok) (and_parts (started? k ls) (closed? k ls && marked? k mark ls ok) test).1).1

  pub bounded : (w : List ℕ) → LeadsTo k mark w → (b : C) × (ok b ≡ true) × Le k.kind b (price k w)
  bounded [] leads =
      let start = k.kind.start in
      let t = (and_parts (implies (eqb k.home mark) (ok start)) _ marked).0 in
      (start, implies_then _ _ t (eq-eqb k.home mark leads.0), elim (laws.total start start) [ inl le ↦ le | inr le ↦ le ])
  bounded (q ∷ w) leads =
      let e = ends_with k mark q w leads in
      let r = e.0 in
      let n = task_bound k laws (label ls) started closed r (q ∷ w) e.2 in
      let t = each_at _ (length ls) (and_parts (implies (eqb k.home mark) (ok k.kind.start)) _ marked).1 r (listed ls r n.0 n.1) in
      (n.0, when_some (label ls r) ok n.0 (implies_then _ _ t (eq-eqb (run_at k.runs r).head mark e.1)) n.1, n.2)
