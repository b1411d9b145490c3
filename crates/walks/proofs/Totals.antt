-- The costs step by step are the sums over the whole walk.
use Rattle.std.proofs.Common.{◌≡◌, ℕ, ◌+◌, ◌*◌, min, max, Bool, true, false, cond, List, [], ◌∷◌, refl, ap, ◌∙◌, arith}
use Rattle.track.specs.declared.run.Run.{Run}
use Rattle.walks.specs.Rules.{Rule}
use Rattle.walks.specs.Costs.{sum_kind, time_top, time_joint, strain_kind, handover_top, handover_joint, change}
use Rattle.walks.specs.Walks.{run_at, joint, penalty_of, differ, onward, cost}
use Rattle.walks.specs.Sums.{tenths, changes, largest_strain, TimeIsSum, StrainIsLargest, HandoversAreSum}

-- the time of each run, and between two runs a number for their joint
abbrev total : (ℕ → Bool → ℕ) → Rule → List Run → List ℕ → ℕ
total f t m [] = 0
total f t m (r ∷ []) = (run_at m r).time
total f t m (q ∷ (r ∷ w)) = (run_at m q).time + f (penalty_of (joint t (run_at m q) (run_at m r))) (differ (run_at m q) (run_at m r)) + total f t m (r ∷ w)

-- a stop on the way is a stop at the end
stop_late : (top c p i : ℕ) → min (min (min c top + p) top + i) top ≡ min (c + p + i) top
stop_late top c p i = grind arith

module _ (top : ℕ) (f : ℕ → Bool → ℕ) (t : Rule) (m : List Run) where
  onward_total : (d q : ℕ) (w : List ℕ) → onward (sum_kind top f) t m (min (d + (run_at m q).time) top) q w ≡ min (d + total f t m (q ∷ w)) top
  onward_total d q [] = refl
  onward_total d q (r ∷ w) =
      let c = d + (run_at m q).time in
      let p = f (penalty_of (joint t (run_at m q) (run_at m r))) (differ (run_at m q) (run_at m r)) in
      let e : c + p + total f t m (r ∷ w) ≡ d + ((run_at m q).time + p + total f t m (r ∷ w)) = omega arith in
      ap (λ (z : ℕ). onward (sum_kind top f) t m z r w) (stop_late top c p (run_at m r).time)
      ∙ onward_total (c + p) r w
      ∙ ap (λ (z : ℕ). min z top) e

  cost_total : (w : List ℕ) → cost (sum_kind top f) t m w ≡ min (total f t m w) top
  cost_total [] = grind arith
  cost_total (r ∷ w) = let e : 0 + total f t m (r ∷ w) ≡ total f t m (r ∷ w) = omega arith in onward_total 0 r w ∙ ap (λ (z : ℕ). min z top) e

time_total : (t : Rule) (m : List Run) (w : List ℕ) → total time_joint t m w ≡ tenths t m w
time_total t m [] = refl
time_total t m (r ∷ []) = refl
time_total t m (q ∷ (r ∷ w)) = ap (λ (z : ℕ). (run_at m q).time + penalty_of (joint t (run_at m q) (run_at m r)) + z) (time_total t m (r ∷ w))

handover_total : (t : Rule) (m : List Run) (w : List ℕ) → total handover_joint t m w ≡ tenths t m w + change * changes m w
handover_total t m [] = refl
handover_total t m (r ∷ []) = omega arith
handover_total t m (q ∷ (r ∷ w)) = go (differ (run_at m q) (run_at m r)) (handover_total t m (r ∷ w))
  where
    go : (d : Bool) → total handover_joint t m (r ∷ w) ≡ tenths t m (r ∷ w) + change * changes m (r ∷ w)
        → (run_at m q).time + handover_joint (penalty_of (joint t (run_at m q) (run_at m r))) d + total handover_joint t m (r ∷ w)
        ≡ (run_at m q).time + penalty_of (joint t (run_at m q) (run_at m r)) + tenths t m (r ∷ w) + change * (cond d 1 0 + changes m (r ∷ w))
    go true h = omega arith
    go false h = omega arith

pub time_is_sum : TimeIsSum
time_is_sum t m w = cost_total time_top time_joint t m w ∙ ap (λ (z : ℕ). min z time_top) (time_total t m w)

pub handovers_are_sum : HandoversAreSum
handovers_are_sum t m w = cost_total handover_top handover_joint t m w ∙ ap (λ (z : ℕ). min z handover_top) (handover_total t m w)

onward_largest : (t : Rule) (m : List Run) (c q : ℕ) (w : List ℕ) → onward strain_kind t m c q w ≡ max c (largest_strain m w)
onward_largest t m c q [] = grind arith
onward_largest t m c q (r ∷ w) = onward_largest t m (max c (run_at m r).strain) r w ∙ grind arith

pub strain_is_largest : StrainIsLargest
strain_is_largest t m [] = refl
strain_is_largest t m (r ∷ w) = onward_largest t m (max 0 (run_at m r).strain) r w ∙ grind arith
