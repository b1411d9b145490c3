-- A walk that repeats no run meets no stop.
use Rattle.std.proofs.Common.{◌≡◌, ℕ, suc, ◌+◌, ◌*◌, ◌<◌, ◌≤◌, min, Bool, true, false, cond, List, [], ◌∷◌, length, get_or, Some, None, Option, refl, ap, ◌∙◌, subst, inl, inr, arith}
use Rattle.std.specs.List.{AllByRecursion as All}
use Rattle.std.proofs.lemmas.Bool.{cases_lt, both_ways}
use Rattle.std.proofs.lemmas.List.{get_or_past, get_or_default}
use Rattle.std.proofs.lemmas.Bool.Decides.{nat_tests}
use Rattle.track.specs.Sizes.{most_runs, most_time}
use Rattle.track.specs.Runs.{idle}
use Rattle.track.specs.declared.run.Run.{Run}
use Rattle.track.specs.declared.rig.Rig.{Rig}
use Rattle.track.specs.Map.{Call}
use Rattle.track.specs.Calls.{map_of, map_after, LeftBy}
use Rattle.track.proofs.History.{left_is}
use Rattle.walks.specs.Costs.{time_top, handover_top, change}
use Rattle.walks.specs.Rules.{Rule, SoundRule}
use Rattle.walks.specs.Walks.{not_laid, run_at, penalty_of, differ, Walk, NoRepeat}
use Rattle.walks.specs.Sums.{tenths, changes, most_tenths, NoStopOver, NoStopMet, NoStopAfterCalls}
use Rattle.walks.proofs.Few.{few}
use Rattle.walks.proofs.Totals.{time_is_sum, handovers_are_sum}

-- a run that is not struck was laid
pub laid : (m : List Run) (r : ℕ) → (run_at m r).struck ≡ false → r < length m
laid m r h = elim (cases_lt r (length m)) [
  | inl lt ↦ lt
  | inr ge ↦ absurd (both_ways (run_at m r).struck h (ap (λ (x : Run). x.struck) (get_or_past m r not_laid ge)))
]

pub walk_laid : (m : List Run) (a : ℕ) (w : List ℕ) (b : ℕ) → Walk m a w b → All (λ r. r < length m) w
walk_laid m a [] b h = tt
walk_laid m a (r ∷ w) b (un, tail, h) = (laid m r un, walk_laid m (run_at m r).head w b h)

penalty_bound : (t : Rule) → SoundRule t → (point arriving leaving : ℕ) → penalty_of (t point arriving leaving) ≤ 65534
penalty_bound t s p a l = go (t p a l) refl
  where
    go : (o : Option ℕ) → t p a l ≡ o → penalty_of o ≤ 65534
    go None e = omega arith
    go (Some n) e = let lt = s.small p a l n e in omega arith

changes_bound : (m : List Run) (r : ℕ) (w : List ℕ) → changes m (r ∷ w) ≤ length w
changes_bound m r [] = omega arith
changes_bound m r (q ∷ w) = go (differ (run_at m r) (run_at m q)) (changes_bound m q w)
  where
    go : (d : Bool) → changes m (q ∷ w) ≤ length w → cond d 1 0 + changes m (q ∷ w) ≤ suc (length w)
    go true h = omega arith
    go false h = omega arith

under : (a top : ℕ) → a ≤ top → min a top ≡ a
under a top h = grind arith

module _ (m : List Run) (few-laid : length m ≤ most_runs) (in-time : (r : ℕ) → (run_at m r).time ≤ most_time) where
  tenths_bound : (t : Rule) → SoundRule t → (r : ℕ) (w : List ℕ) → tenths t m (r ∷ w) ≤ 65535 + (65535 + 65534) * length w
  tenths_bound t s r [] = let i = in-time r in omega arith
  tenths_bound t s r (q ∷ w) =
      let h = tenths_bound t s q w in
      let i = in-time r in
      let p = penalty_bound t s (run_at m r).head (run_at m r).winch (run_at m q).winch in
      omega arith

  both_bounds : (t : Rule) (a : ℕ) (w : List ℕ) (b : ℕ) → SoundRule t → Walk m a w b → NoRepeat w → (tenths t m w ≤ most_tenths) × (changes m w ≤ 255)
  both_bounds t a [] b s walk apart = (omega arith, omega arith)
  both_bounds t a (r ∷ w) b s walk apart =
      let n = few (length m) (r ∷ w) apart (walk_laid m a (r ∷ w) b walk) in
      let h = tenths_bound t s r w in
      let c = changes_bound m r w in
      (omega arith, omega arith)

  pub unstopped : NoStopOver m
  unstopped t a w b s walk apart =
      let h = both_bounds t a w b s walk apart in
      record {
        bound = h.0;
        time = time_is_sum t m w ∙ under (tenths t m w) time_top (omega arith);
        handovers = handovers_are_sum t m w ∙ under (tenths t m w + change * changes m w) handover_top (omega arith);
      }

-- the map of a rig, in either state
no_stop_of : {S : Type 0} (rig : Rig S) → NoStopOver (map_of rig).runs
no_stop_of rig =
    let rs = rig.layout.table.runs.items in
    unstopped rs rig.room (λ r. elim (cases_lt r (length rs)) [
      | inl lt ↦ (let s = rig.sound r lt in
          let e : run_at rs r ≡ get_or rs r idle = get_or_default rs r not_laid idle (omega arith) in
          rw e (grind (arith, nat_tests)))
      | inr ge ↦ (let e : run_at rs r ≡ not_laid = get_or_past rs r not_laid (omega arith) in rw e (omega arith))
    ])

pub no_stop_met : NoStopMet
no_stop_met = (no_stop_of, no_stop_of)

no_stop_after : {S : Type 0} (calls : List Call) (rig : Rig S) → LeftBy calls (map_of rig) → NoStopOver (map_after calls).runs
no_stop_after calls rig h = subst (λ m. NoStopOver m.runs) (left_is calls (map_of rig) h) (no_stop_of rig)

pub no_stop_after_calls : NoStopAfterCalls
no_stop_after_calls = (no_stop_after, no_stop_after)
