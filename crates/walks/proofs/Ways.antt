-- The problem of a task, its laws, and its ways as the legal walks from the home.
use Rattle.std.proofs.Common.{◌≡◌, ℕ, Bool, true, false, cond, not, ◌&&◌, eqb, List, [], ◌∷◌, Some, None, Option, sym, refl, ap, ◌∙◌, subst, arith}
use Rattle.std.specs.Option.{option_map}
use Rattle.std.proofs.lemmas.Bool.{and_parts, and_from, not-true, not_from_false, eqb-true, eq-eqb}
use Rattle.track.specs.declared.run.Run.{Run}
use Rattle.walks.specs.Kinds.{Kind, Lawful, Le, Fits}
use Rattle.walks.specs.Rules.{Rule}
use Rattle.walks.specs.Walks.{run_at, Walk, Legal, joint, penalty_of, differ, along, onto, onward}
use Rattle.walks.specs.Cheapest.{Task, task, price, last, EndsWith}
use Rattle.walks.specs.Moves.{begin_cost, follow_cost}
use Rattle.walks.specs.Labels.{Labels, Labelled, Started, Closed, LabelsBound}
use Rattle.walks.proofs.Net.{Net, LawfulNet, Way, Onward, Starts, Closes, bound}

abbrev pub net : {C : Type 0} → Task C → Net C
net k = record {
  at_most = k.kind.at_most;
  fits = k.kind.fits;
  first = λ r. begin_cost k.kind k.home (run_at k.runs r);
  after = λ q r c. follow_cost k.kind k.rule (run_at k.runs q) (run_at k.runs r) c;
}

pub none_some : {C : Type 0} (o : Option C) (c : C) → o ≡ None → o ≡ Some c → ⊥
none_some o c h k = let z : ◌≡◌ {A = ℕ} 0 1 = cc in omega arith

-- what a test in front of an option says where the option has a value
when_some : {C : Type 0} (b : Bool) (o : Option C) (c : C) → cond b o None ≡ Some c → (b ≡ true) × (o ≡ Some c)
when_some true o c h = (refl, h)
when_some false o c h = absurd (none_some None c refl h)

mapped_some : {A C : Type 0} (f : A → C) (o : Option A) (c : C) → option_map f o ≡ Some c → (a : A) × (o ≡ Some a) × (c ≡ f a)
mapped_some f None c h = absurd (none_some None c refl h)
mapped_some f (Some a) c h = (a, refl, cc)

-- a run that is not struck and leaves the point v
free : (x : Run) (v : ℕ) → (not x.struck && eqb x.tail v) ≡ true → (x.struck ≡ false) × (x.tail ≡ v)
free x v h = let p = and_parts (not x.struck) (eqb x.tail v) h in (not-true x.struck p.0, eqb-true x.tail v p.1)

is_free : (x : Run) (v : ℕ) → x.struck ≡ false → x.tail ≡ v → (not x.struck && eqb x.tail v) ≡ true
is_free x v s t = and_from (not x.struck) (eqb x.tail v) (not_from_false x.struck s) (eq-eqb x.tail v t)

module _ {C : Type 0} (k : Kind C) where
  begin_from : (home : ℕ) (x : Run) (c : C) → begin_cost k home x ≡ Some c → (x.struck ≡ false) × (x.tail ≡ home) × (along k k.start x ≡ c)
  begin_from home x c h =
      let m = when_some (not x.struck && eqb x.tail home) (Some (along k k.start x)) c h in
      let f = free x home m.0 in
      (f.0, f.1, (let e = m.1 in cc))

  begin_when : (home : ℕ) (x : Run) → x.struck ≡ false → x.tail ≡ home → begin_cost k home x ≡ Some (along k k.start x)
  begin_when home x s t = ap (λ (b : Bool). cond b (Some (along k k.start x)) None) (is_free x home s t)

  follow_from : (t : Rule) (x y : Run) (a c : C) → follow_cost k t x y a ≡ Some c → (p : ℕ) × (y.struck ≡ false) × (y.tail ≡ x.head) × (joint t x y ≡ Some p) × (onto k t a x y ≡ c)
  follow_from t x y a c h =
      let m = when_some (not y.struck && eqb y.tail x.head) (option_map (λ p. along k (k.over a p (differ x y)) y) (joint t x y)) c h in
      let f = free y x.head m.0 in
      let n = mapped_some (λ p. along k (k.over a p (differ x y)) y) (joint t x y) c m.1 in
      (n.0, f.0, f.1, n.1, ap (λ (o : Option ℕ). along k (k.over a (penalty_of o) (differ x y)) y) n.1 ∙ sym n.2)

  follow_when : (t : Rule) (x y : Run) (a : C) (p : ℕ) → y.struck ≡ false → y.tail ≡ x.head → joint t x y ≡ Some p → follow_cost k t x y a ≡ Some (onto k t a x y)
  follow_when t x y a p s h j =
      ap (λ (b : Bool). cond b (option_map (λ p. along k (k.over a p (differ x y)) y) (joint t x y)) None) (is_free y x.head s h)
      ∙ ap (option_map (λ p. along k (k.over a p (differ x y)) y)) j
      ∙ ap (λ (o : Option ℕ). Some (along k (k.over a (penalty_of o) (differ x y)) y)) (sym j)

module _ {C : Type 0} (k : Task C) where
  way_onward : (q : ℕ) (b : C) (w : List ℕ) (r : ℕ) → last (q ∷ w) ≡ Some r → Walk k.runs (run_at k.runs q).head w (run_at k.runs r).head → Legal k.rule k.runs (q ∷ w)
      → Onward (net k) q b w r (onward k.kind k.rule k.runs b q w)
  way_onward q b [] r end walk legal = ((cc), refl)
  way_onward q b (s ∷ w) r end (un, tail, walk) (p, j, legal) =
      let x = run_at k.runs q in
      let y = run_at k.runs s in
      let c = onto k.kind k.rule b x y in
      (c, follow_when k.kind k.rule x y b p un tail j, way_onward s c w r end walk legal)

  -- a legal walk is a way, at what it costs
  pub walk_way : (w : List ℕ) (r : ℕ) → EndsWith k r w → Way (net k) w r (price k w)
  walk_way [] r (end, leads) = none_some None r refl end
  walk_way (q ∷ w) r (end, ((un, tail, walk), legal)) =
      let b = along k.kind k.kind.start (run_at k.runs q) in
      (b, begin_when k.kind k.home (run_at k.runs q) un tail, way_onward q b w r end walk legal)

  onward_walk : (q : ℕ) (b : C) (w : List ℕ) (r : ℕ) (c : C) → Onward (net k) q b w r c
      → (last (q ∷ w) ≡ Some r) × Walk k.runs (run_at k.runs q).head w (run_at k.runs r).head × Legal k.rule k.runs (q ∷ w) × (onward k.kind k.rule k.runs b q w ≡ c)
  onward_walk q b [] r c (same, cost) = (ap Some same, ap (λ (s : ℕ). (run_at k.runs s).head) same, tt, cost)
  onward_walk q b (s ∷ w) r c (d, go, on) =
      let m = follow_from k.kind k.rule (run_at k.runs q) (run_at k.runs s) b d go in
      let n = onward_walk s d w r c on in
      (n.0, (m.1, m.2, n.1), (m.0, m.3, n.2), ap (λ (z : C). onward k.kind k.rule k.runs z s w) m.4 ∙ n.3)

  -- a way is a legal walk of that cost
  pub way_walk : (w : List ℕ) (r : ℕ) (c : C) → Way (net k) w r c → EndsWith k r w × (price k w ≡ c)
  way_walk [] r c way = absurd way
  way_walk (q ∷ w) r c (b, go, on) =
      let m = begin_from k.kind k.home (run_at k.runs q) b go in
      let n = onward_walk q b w r c on in
      ((n.0, ((m.0, m.1, n.1), n.2)), ap (λ (z : C). onward k.kind k.rule k.runs z q w) m.2 ∙ n.3)

-- the laws of a kind are the laws of the problem
pub net_laws : {C : Type 0} (k : Task C) → Lawful k.kind → LawfulNet (net k)
net_laws {C} k laws =
    record { total = laws.total; trans = laws.trans; first_fits = first_fits; after_fits = after_fits; after_up = after_up; after_keeps = after_keeps }
  where
    first_fits : (r : ℕ) (c : C) → (net k).first r ≡ Some c → Fits k.kind c
    first_fits r c h =
        let x = run_at k.runs r in
        subst (λ (z : C). Fits k.kind z) (begin_from k.kind k.home x c h).2 (laws.along_fits k.kind.start x.time x.strain laws.start_fits)

    after_fits : (q r : ℕ) (a c : C) → Fits k.kind a → (net k).after q r a ≡ Some c → Fits k.kind c
    after_fits q r a c fit h =
        let x = run_at k.runs q in
        let y = run_at k.runs r in
        let p = penalty_of (joint k.rule x y) in
        subst (λ (z : C). Fits k.kind z) (follow_from k.kind k.rule x y a c h).4
        (laws.along_fits (k.kind.over a p (differ x y)) y.time y.strain (laws.over_fits a p (differ x y) fit))

    after_up : (q r : ℕ) (a c : C) → Fits k.kind a → (net k).after q r a ≡ Some c → Le k.kind a c
    after_up q r a c fit h =
        let x = run_at k.runs q in
        let y = run_at k.runs r in
        let p = penalty_of (joint k.rule x y) in
        let o = k.kind.over a p (differ x y) in
        subst (λ (z : C). Le k.kind a z) (follow_from k.kind k.rule x y a c h).4
        (laws.trans a o (along k.kind o y) (laws.over_up a p (differ x y) fit) (laws.along_up o y.time y.strain (laws.over_fits a p (differ x y) fit)))

    after_keeps : (q r : ℕ) (a b c : C) → Le k.kind a b → (net k).after q r b ≡ Some c → (d : C) × ((net k).after q r a ≡ Some d) × Le k.kind d c
    after_keeps q r a b c le h =
        let x = run_at k.runs q in
        let y = run_at k.runs r in
        let p = penalty_of (joint k.rule x y) in
        let m = follow_from k.kind k.rule x y b c h in
        let d = onto k.kind k.rule a x y in (
          d,
          follow_when k.kind k.rule x y a m.0 m.1 m.2 m.3,
          subst (λ (z : C). Le k.kind d z) m.4 (laws.along_keeps (k.kind.over a p (differ x y)) (k.kind.over b p (differ x y)) y.time y.strain (laws.over_keeps a b p (differ x y) le)),
        )

-- labels that are started and closed bound every legal walk
module _ {C : Type 0} (k : Task C) (laws : Lawful k.kind) (L : Labels C) (started : Started k L) (closed : Closed k L) where
  starts : Starts (net k) L
  starts r c go =
      let n = way_walk k (r ∷ []) r c (c, go, (refl, refl)) in
      subst (λ (z : C). Labelled k.kind L r z) n.1 (started r n.0)

  closes : Closes (net k) L
  closes q r b c is go =
      let n = onward_walk k q b (r ∷ []) r c (c, go, (refl, refl)) in
      subst (λ (z : C). Labelled k.kind L r z) n.3 (closed q r b is (n.1, n.2))

  pub task_bound : (r : ℕ) (w : List ℕ) → EndsWith k r w → Labelled k.kind L r (price k w)
  task_bound r w ends = bound (net_laws k laws) starts closes w r (price k w) (walk_way k w r ends)

pub labels_bound : {C : Type 0} (k : Kind C) → Lawful k → LabelsBound k
labels_bound k laws rule runs home L started closed r w ends = task_bound (task k rule runs home) laws L started closed r w ends
