-- A sheet, line by line.
use Rattle.std.proofs.Common.{◌≡◌, ℕ, List, [], ◌∷◌, ◌++◌, map, sym, refl, ap, ◌∙◌, subst, append_assoc, append-nil}
use Rattle.std.specs.List.{flat_map}
use Rattle.track.specs.Answers.{Answer, gave, refused, if_gave}
use Rattle.track.specs.Map.{Map, Call, after}
use Rattle.track.specs.Calls.{afters, map_after, LeftBy}
use Rattle.desk.specs.Desks.{Desk, with_rule}
use Rattle.reader.specs.declared.rulings.Ruling.{Ruling}
use Rattle.reader.specs.declared.rulings.Ruling.TheVariants.{Choose, SetFlat, SetPoint, SetPair}
use Rattle.reader.specs.Words.{Said, nothing, unreadable, calls, rules, asks, looks, says}
use Rattle.reader.specs.Sheet.{lines}
use Rattle.sheet.specs.Sheet.{called, sheet_calls}
use Rattle.sheet.specs.Ruled.{rule_of, ruling_answer, set_by}
use Rattle.sheet.specs.Replies.{Reply, Told, left, lefts, AllTold, GoesOn}

pub afters_append : (m : Map) (cs ds : List Call) → afters m (cs ++ ds) ≡ afters (afters m cs) ds
afters_append m [] ds = refl
afters_append m (c ∷ cs) ds = afters_append (after m c) cs ds

pub goes_on : (m n : Map) (cs : List Call) → n ≡ afters m cs → GoesOn m cs n
unfolding LeftBy map_after
goes_on m n cs e before was = e ∙ ap (λ k. afters k cs) was ∙ sym (afters_append _ before cs)

-- a ruling leaves the map as it was
if_gave_map : (a : Answer (Unit {0})) (x y : Desk) → x.map ≡ y.map → (if_gave a x y).map ≡ y.map
if_gave_map (gave u) x y e = e
if_gave_map (refused n) x y e = refl

set_map : (d : Desk) (x : Ruling) → (set_by d x).map ≡ d.map
set_map d (Choose rule) = refl
set_map d (SetFlat setting) = refl
set_map d (SetPoint point setting) = refl
set_map d (SetPair arriving leaving setting) = refl

left_map : (d : Desk) (s : Said) → (left d s).map ≡ afters d.map (called s)
left_map d nothing = refl
left_map d unreadable = refl
left_map d (calls c) = refl
left_map d (rules x) = if_gave_map (ruling_answer x) (with_rule (set_by d x) (rule_of x)) d (set_map d x)
left_map d (asks q) = refl
left_map d (looks l) = refl

pub said_calls : (ls : List (List ℕ)) → flat_map (λ line. called (says line)) ls ≡ flat_map called (map says ls)
said_calls [] = refl
said_calls (l ∷ ls) = ap (λ z. called (says l) ++ z) (said_calls ls)

-- what is left of the sheet, at the desk that the lines so far left, with what was told of them
pub record SheetTo (start : Desk) (text : List ℕ) (told : List Reply) (d : Desk) (rest : List ℕ) : Type 0 where
  pub told_to : (rs : List Reply) → AllTold d (lines rest) rs → AllTold start (lines text) (told ++ rs)
  pub lefts_to : lefts d (lines rest) ≡ lefts start (lines text)
  pub calls_to : afters d.map (sheet_calls rest) ≡ afters start.map (sheet_calls text)

pub sheet_none : (d : Desk) (text : List ℕ) (told : List Reply) → told ≡ [] → SheetTo d text told d text
sheet_none d text told none = record { told_to = λ rs h. subst (λ z. AllTold d (lines text) (z ++ rs)) (sym none) h; lefts_to = refl; calls_to = refl }

module _ (start : Desk) (text : List ℕ) (told : List Reply) (d : Desk) (rest : List ℕ) (so_far : SheetTo start text told d rest) where
  pub sheet_more : (l more : List ℕ) (n : Desk) (r : Reply) (now-told : List Reply) → lines rest ≡ l ∷ lines more → Told d (says l) r → n ≡ left d (says l) → now-told ≡ told ++ r ∷ [] → SheetTo start text now-told n more
  sheet_more l more n r now-told cut is left_it grown =
      record {
        told_to = λ rs h.
            subst (AllTold start (lines text)) (sym (ap (λ z. z ++ rs) grown ∙ append_assoc told (r ∷ []) rs))
            (so_far.told_to (r ∷ rs) (subst (λ ls. AllTold d ls (r ∷ rs)) (sym cut) (is, subst (λ k. AllTold k (lines more) rs) left_it h)));
        lefts_to = ap (λ k. lefts k (lines more)) left_it ∙ ap (lefts d) (sym cut) ∙ so_far.lefts_to;
        calls_to =
            ap (λ k. afters k (sheet_calls more)) (ap (λ (k : Desk). k.map) left_it ∙ left_map d (says l))
            ∙ sym (afters_append d.map (called (says l)) (sheet_calls more))
            ∙ ap (λ ls. afters d.map (flat_map (λ line. called (says line)) ls)) (sym cut)
            ∙ so_far.calls_to;
      }

  module _ (none : rest ≡ []) where
    pub told_all : AllTold start (lines text) told
    told_all = subst (AllTold start (lines text)) (append-nil told) (so_far.told_to [] (subst (λ z. AllTold d (lines z) []) (sym none) tt))

    pub left_all : d ≡ lefts start (lines text)
    left_all = ap (λ z. lefts d (lines z)) (sym none) ∙ so_far.lefts_to

    pub calls_all : d.map ≡ afters start.map (sheet_calls text)
    calls_all = ap (λ z. afters d.map (sheet_calls z)) (sym none) ∙ so_far.calls_to
