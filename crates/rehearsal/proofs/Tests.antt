-- Walks, legal walks and walks that repeat no run, as tests that compute.
use Rattle.std.proofs.Common.{◌≡◌, ℕ, Bool, true, not, ◌&&◌, eqb, List, [], ◌∷◌, is_some, Some, None, Decides, Option, refl, arith}
use Rattle.std.proofs.lemmas.Bool.{not-true, not_from_false, false≢true}
use Rattle.std.proofs.lemmas.Bool.Decides.{Decides-eqb, Decides-and, Decides-not, Decides-like}
use Rattle.track.specs.declared.run.Run.{Run}
use Rattle.walks.specs.Rules.{Rule}
use Rattle.walks.specs.Walks.{run_at, Walk, Legal, joint, Missing, NoRepeat}
use Rattle.walks.specs.Cheapest.{Task, LeadsTo}

abbrev pub walk? : List Run → ℕ → List ℕ → ℕ → Bool
walk? m a [] b = eqb a b
walk? m a (r ∷ w) b = not (run_at m r).struck && (eqb (run_at m r).tail a && walk? m (run_at m r).head w b)

abbrev pub legal? : Rule → List Run → List ℕ → Bool
legal? t m [] = true
legal? t m (r ∷ []) = true
legal? t m (q ∷ (r ∷ w)) = is_some (joint t (run_at m q) (run_at m r)) && legal? t m (r ∷ w)

abbrev pub leads? : {C : Type 0} → Task C → ℕ → List ℕ → Bool
leads? k mark w = walk? k.runs k.home w mark && legal? k.rule k.runs w

abbrev pub missing? : ℕ → List ℕ → Bool
missing? r [] = true
missing? r (q ∷ w) = not (eqb r q) && missing? r w

abbrev pub no_repeat? : List ℕ → Bool
no_repeat? [] = true
no_repeat? (r ∷ w) = missing? r w && no_repeat? w

always : Decides true (Unit {0})
always = (λ e. tt, λ u. refl)

decides_some : {A : Type 0} (o : Option A) → Decides (is_some o) ((x : A) × (o ≡ Some x))
decides_some None = (λ e. absurd (false≢true e), λ x. (let z : ◌≡◌ {A = ℕ} 0 1 = let e = x.1 in cc in absurd (omega arith)))
decides_some (Some x) = (λ e. (x, refl), λ y. refl)

pub decides_walk : (m : List Run) (a : ℕ) (w : List ℕ) (b : ℕ) → Decides (walk? m a w b) (Walk m a w b)
decides_walk m a [] b = Decides-eqb a b
decides_walk m a (r ∷ w) b =
    Decides-like _ (λ x. (x.0, x.1.0, x.1.1)) (λ x. (x.0, (x.1, x.2)))
    (Decides-and _ _ (not-true (run_at m r).struck, not_from_false (run_at m r).struck) (Decides-and _ _ (Decides-eqb (run_at m r).tail a) (decides_walk m (run_at m r).head w b)))

pub decides_legal : (t : Rule) (m : List Run) (w : List ℕ) → Decides (legal? t m w) (Legal t m w)
decides_legal t m [] = always
decides_legal t m (r ∷ []) = always
decides_legal t m (q ∷ (r ∷ w)) =
    Decides-like _ (λ x. (x.0.0, x.0.1, x.1)) (λ x. ((x.0, x.1), x.2))
    (Decides-and _ _ (decides_some (joint t (run_at m q) (run_at m r))) (decides_legal t m (r ∷ w)))

pub decides_leads : {C : Type 0} (k : Task C) (mark : ℕ) (w : List ℕ) → Decides (leads? k mark w) (LeadsTo k mark w)
decides_leads k mark w = Decides-and _ _ (decides_walk k.runs k.home w mark) (decides_legal k.rule k.runs w)

decides_missing : (r : ℕ) (w : List ℕ) → Decides (missing? r w) (Missing r w)
decides_missing r [] = always
decides_missing r (q ∷ w) = Decides-and _ _ (Decides-not _ (Decides-eqb r q)) (decides_missing r w)

pub decides_no_repeat : (w : List ℕ) → Decides (no_repeat? w) (NoRepeat w)
decides_no_repeat [] = always
decides_no_repeat (r ∷ w) = Decides-and _ _ (decides_missing r w) (decides_no_repeat w)
