-- What commands may come to, one command after another.
use Rattle.std.proofs.Common.{◌≡◌, ℕ, zero, suc, pred, ◌+◌, ◌-◌, ◌<◌, ◌≤◌, Bool, cond, List, [], ◌∷◌, length, drop, Ok, Err, MatchBool, sym, refl, ap, ◌∙◌, subst, arith}
use Rattle.std.proofs.lemmas.Bool.{le-leb, lt-leb}
use Rattle.tape.specs.declared.command.KindName.{KindName}
use Rattle.tape.specs.declared.refusal.TapeCause.{TapeCause}
use Rattle.tape.specs.Refusals.{cause_number}
use Rattle.tape.specs.Commands.{Said}
use Rattle.tape.specs.Reading.{Read, decode}
use Rattle.desk.specs.Desks.{Desk, Reply, RightReply}
use Rattle.player.specs.Faults.{LayerName, in_tape, in_listing}
use Rattle.player.specs.Lines.{line_of}
use Rattle.player.specs.Play.{Step, done, failed, asked, step, Item, then, items, Outcome, ends, faults, behind, goes, played, RightStep, RepliesRight}

-- with some right replies, these commands come to o
pub record May (d : Desk) (is : List Item) (room : ℕ) (o : Outcome) : Type 0 where
  pub replies : List Reply
  pub right : RepliesRight d is replies room
  pub comes : played d is replies room ≡ o

pub may_end : (d : Desk) (room : ℕ) → May d [] room (ends d)
may_end d room = record { replies = []; right = refl; comes = refl }

-- a command that cannot be read
pub may_unread : (d : Desk) (place n : ℕ) (is : List Item) (room : ℕ) → May d (record { place = place; says = Err n } ∷ is) room (faults d n place in_tape)
may_unread d place n is room = record { replies = []; right = refl; comes = refl }

-- a command that was read, by what it comes to
module _ (d : Desk) (place : ℕ) (c : Said) (is : List Item) (room : ℕ) where
  RightAt : List Reply → Step → Type 0
  RightAt rs s = RightStep s d rs room (λ e qs left. RepliesRight e is qs left)

  comes_at : List Reply → Step → Outcome
  comes_at rs s = goes s d place rs room (λ e qs left. played e is qs left)

  pub may_done : (e : Desk) (o : Outcome) → step d c ≡ done e → May e is room o → May d (record { place = place; says = Ok c } ∷ is) room o
  unfolding RightAt comes_at
  may_done e o q m =
      record { replies = m.replies; right = subst (RightAt m.replies) (sym q) m.right; comes = ap (comes_at m.replies) q ∙ m.comes }

  pub may_fail : (n : ℕ) (layer : LayerName) → step d c ≡ failed n layer → May d (record { place = place; says = Ok c } ∷ is) room (faults d n place layer)
  unfolding RightAt comes_at
  may_fail n layer q = record { replies = []; right = subst (RightAt []) (sym q) refl; comes = ap (comes_at []) q }

  module _ (kind : KindName) (home mark : ℕ) (r : Reply) (q : step d c ≡ asked kind home mark) (h : RightReply d kind home mark r) where
    pub may_ask : (o : Outcome) → length (line_of kind home mark r) ≤ room → May d is (room - length (line_of kind home mark r)) o
        → May d (record { place = place; says = Ok c } ∷ is) room (behind (line_of kind home mark r) o)
    unfolding RightAt comes_at
    may_ask o f m =
        let line = line_of kind home mark r in
        let b = le-leb (length line) room f in
        record {
          replies = r ∷ m.replies;
          right = subst (RightAt (r ∷ m.replies)) (sym q) (h, subst (λ (t : Bool). MatchBool t (RepliesRight d is m.replies (room - length line)) (m.replies ≡ [])) (sym b) m.right);
          comes =
              ap (comes_at (r ∷ m.replies)) q
              ∙ ap (λ (t : Bool). cond t (behind line (played d is m.replies (room - length line))) (faults d 18 place in_listing)) b
              ∙ ap (behind line) m.comes;
        }

    pub may_lack : room < length (line_of kind home mark r) → May d (record { place = place; says = Ok c } ∷ is) room (faults d 18 place in_listing)
    unfolding RightAt comes_at
    may_lack f =
        let line = line_of kind home mark r in
        let b = lt-leb (length line) room f in
        record {
          replies = r ∷ [];
          right = subst (RightAt (r ∷ [])) (sym q) (h, subst (λ (t : Bool). MatchBool t (RepliesRight d is [] (room - length line)) (◌≡◌ {A = List Reply} [] [])) (sym b) refl);
          comes =
              ap (comes_at (r ∷ [])) q
              ∙ ap (λ (t : Bool). cond t (behind line (played d is [] (room - length line))) (faults d 18 place in_listing)) b;
        }

-- the commands of a tape, one by one
items_skip : (place s : ℕ) (bs : List ℕ) → items place s bs ≡ items (place + s) 0 (drop s bs)
items_skip place zero [] = refl
items_skip place (suc s) [] = refl
items_skip place zero (b ∷ bs) = let e : place ≡ place + 0 = omega arith in ap (λ p. items p 0 (b ∷ bs)) e
items_skip place (suc s) (b ∷ bs) = let e : suc place + s ≡ place + suc s = omega arith in items_skip (suc place) s bs ∙ ap (λ p. items p 0 (drop s bs)) e

pub items_read : (place : ℕ) (bs : List ℕ) (c : Said) (n : ℕ) → 0 < length bs → 0 < n → decode bs ≡ Ok (c, n)
    → items place 0 bs ≡ record { place = place; says = Ok c } ∷ items (place + n) 0 (drop n bs)
items_read place [] c n h p e = absurd (omega arith)
items_read place (b ∷ bs) c zero h p e = absurd (omega arith)
items_read place (b ∷ bs) c (suc m) h p e =
    let q : suc place + m ≡ place + suc m = omega arith in
    ap (λ (r : Read). then r place (λ s. items (suc place) s bs)) e
    ∙ ap (λ (t : List Item). record { place = place; says = Ok c } ∷ t) (items_skip (suc place) m bs ∙ ap (λ p. items p 0 (drop m bs)) q)

-- whatever follows
pub items_front : (place : ℕ) (bs : List ℕ) (c : Said) (n : ℕ) → 0 < length bs → decode bs ≡ Ok (c, n)
    → (rest : List Item) × (items place 0 bs ≡ record { place = place; says = Ok c } ∷ rest)
items_front place [] c n h e = absurd (omega arith)
items_front place (b ∷ bs) c n h e = (items (suc place) (pred n) bs, ap (λ (r : Read). then r place (λ s. items (suc place) s bs)) e)

pub items_unread : (place : ℕ) (bs : List ℕ) (e : TapeCause) → 0 < length bs → decode bs ≡ Err e → items place 0 bs ≡ record { place = place; says = Err (cause_number e) } ∷ []
items_unread place [] e h q = absurd (omega arith)
items_unread place (b ∷ bs) e h q = ap (λ (r : Read). then r place (λ s. items (suc place) s bs)) q
