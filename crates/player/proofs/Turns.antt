-- One turn of the loop of play, and what the loop keeps.
use Rattle.std.proofs.Common.{◌≡◌, ℕ, zero, suc, ◌+◌, ◌-◌, ◌<◌, ◌≤◌, Bool, true, false, cond, leb, List, [], ◌∷◌, ◌++◌, length, take, drop, Ok, Err, Option, sym, refl, ap, ◌∙◌, subst, arith}
use borrow.Rule.Slice.PartMut.{put_mid}
use Rattle.std.proofs.lemmas.List.{append-nil, append_assoc, length-append, length-drop, length-take-le, take-append-drop, take_at, drop_at, drop-drop, drop_all}
use Rattle.std.proofs.lemmas.Bool.{leb-true, leb-false}
use Rattle.track.specs.Map.{Map}
use Rattle.tape.specs.Commands.{Said}
use Rattle.tape.specs.Reading.{Read, decode}
use Rattle.tape.specs.Refusals.{cause_number}
use Rattle.desk.specs.Desks.{Desk, new_desk}
use Rattle.player.specs.declared.fault.Layer.{Layer}
use Rattle.player.specs.declared.play.Turn.{Turn}
use Rattle.player.specs.Faults.{LayerName, ToldFault, in_tape, in_listing, layer_number, layer_name}
use Rattle.player.specs.Lines.{line_of}
use Rattle.player.specs.Writing.{line_left}
use Rattle.player.specs.Play.{Step, done, failed, asked, step, Item, items, Outcome, ends, faults, behind, played, PlayDone}
use Rattle.player.specs.Obeying.{ToldTurn, line_told, Obeyed, Turned}
use Rattle.player.proofs.Outcomes.{May, may_end, may_unread, may_done, may_fail, may_ask, may_lack, items_read, items_front, items_unread}

-- a line that was written, and one that was not
pub record Fitted (line was is : List ℕ) (m : ℕ) : Type 0 where
  pub room : length line ≤ length was
  pub long : m ≡ length line
  pub front : take m is ≡ line
  pub back : drop m is ≡ drop m was

fitted_by : (b : Bool) (line was is : List ℕ) (m : ℕ) → leb (length line) (length was) ≡ b → ◌≡◌ {A = ToldTurn} (Ok m) (cond b (Ok (length line)) (Err (18, in_listing))) → is ≡ cond b (line ++ drop (length line) was) was → Fitted line was is m
fitted_by true line was is m t e w =
    let n : m ≡ length line = cc in
    record {
      room = leb-true (length line) (length was) t;
      long = n;
      front = ap (take m) w ∙ take_at line (drop (length line) was) m (sym n);
      back = ap (drop m) w ∙ drop_at line (drop (length line) was) m (sym n) ∙ ap (λ k. drop k was) (sym n);
    }
fitted_by false line was is m t e w = cc

fitted : (line was is : List ℕ) (m : ℕ) → Ok m ≡ line_told line was → is ≡ line_left line was → Fitted line was is m
fitted line was is m e w = fitted_by (leb (length line) (length was)) line was is m refl e w

unfitted_by : (b : Bool) (line was is : List ℕ) (n : ℕ) (layer : LayerName) → leb (length line) (length was) ≡ b → ◌≡◌ {A = ToldTurn} (Err (n, layer)) (cond b (Ok (length line)) (Err (18, in_listing))) → is ≡ cond b (line ++ drop (length line) was) was
    → (length was < length line) × (n ≡ 18) × (layer ≡ in_listing) × (is ≡ was)
unfitted_by true line was is n layer t e w = cc
unfitted_by false line was is n layer t e w =
    let p : ◌≡◌ {A = ℕ × LayerName} (n, layer) (18, in_listing) = cc in
    (leb-false (length line) (length was) t, ap (λ (x : ℕ × LayerName). x.0) p, ap (λ (x : ℕ × LayerName). x.1) p, w)

-- how much was written
pub written_within : (s : Step) (d : Desk) (was : List ℕ) (m : ℕ) (d' : Desk) (is : List ℕ) → Obeyed s d was (Ok m) d' is → m ≤ length was
written_within (done e) d was m d' is h = let q = h.0 in let z : m ≡ 0 = cc in omega arith
written_within (failed n layer) d was m d' is h = let q = h.0 in cc
written_within (asked kind home mark) d was m d' is h =
    let f = fitted (line_of kind home mark h.0) was is m h.2 h.4 in
    omega arith

-- a command that was obeyed: what comes of the rest comes, behind its line, of the whole
module _ (place : ℕ) (c : Said) (rest : List Item) (d d' : Desk) (was is : List ℕ) where
  obeyed_on : (s : Step) (m : ℕ) → step d c ≡ s → Obeyed s d was (Ok m) d' is
      → ((o : Outcome) → May d' rest (length was - m) o → May d (record { place = place; says = Ok c } ∷ rest) (length was) (behind (take m is) o)) × (drop m is ≡ drop m was)
  obeyed_on (done e) m q h =
      let a = h.0 in
      let z : m ≡ 0 = cc in
      let r : length was - m ≡ length was = omega arith in (
        λ o k.
            subst (λ (n : ℕ). May d (record { place = place; says = Ok c } ∷ rest) (length was) (behind (take n is) o)) (sym z)
            (may_done d place c rest (length was) e o q (subst (λ (x : Desk). May x rest (length was) o) h.1 (subst (λ (n : ℕ). May d' rest n o) r k))),
        ap (drop m) h.2,
      )
  obeyed_on (failed n layer) m q h = let a = h.0 in cc
  obeyed_on (asked kind home mark) m q h =
      let line = line_of kind home mark h.0 in
      let f = fitted line was is m h.2 h.4 in (
        λ o k.
            subst (λ (t : List ℕ). May d (record { place = place; says = Ok c } ∷ rest) (length was) (behind t o)) (sym f.front)
            (may_ask d place c rest (length was) kind home mark h.0 q h.1 o f.room
            (subst (λ (n : ℕ). May d rest (length was - n) o) f.long (subst (λ (x : Desk). May x rest (length was - m) o) h.3 k))),
        f.back,
      )

  -- one that was not
  obeyed_off : (s : Step) (n : ℕ) (layer : LayerName) → step d c ≡ s → Obeyed s d was (Err (n, layer)) d' is
      → May d (record { place = place; says = Ok c } ∷ rest) (length was) (faults d n place layer) × (d' ≡ d) × (is ≡ was)
  obeyed_off (done e) n layer q h = let a = h.0 in cc
  obeyed_off (failed n' layer') n layer q h =
      let a = h.0 in
      let p : ◌≡◌ {A = ℕ × LayerName} (n', layer') (n, layer) = cc in (
        subst (λ (x : ℕ × LayerName). May d (record { place = place; says = Ok c } ∷ rest) (length was) (faults d x.0 place x.1)) p (may_fail d place c rest (length was) n' layer' q),
        h.1,
        h.2,
      )
  obeyed_off (asked kind home mark) n layer q h =
      let line = line_of kind home mark h.0 in
      let f = unfitted_by (leb (length line) (length was)) line was is n layer refl h.2 h.4 in
      let p : ◌≡◌ {A = ℕ × LayerName} (18, in_listing) (n, layer) = let a = f.1 in let b = f.2 in cc in (
        subst (λ (x : ℕ × LayerName). May d (record { place = place; says = Ok c } ∷ rest) (length was) (faults d x.0 place x.1)) p
            (may_lack d place c rest (length was) kind home mark h.0 q h.1 f.0),
        h.3,
        f.3,
      )

-- the command at the front of the tape's bytes
module _ (place : ℕ) (bs : List ℕ) (some : 0 < length bs) (d d' : Desk) (was is : List ℕ) where
  turned_on : (x : Read) (t : Turn) → decode bs ≡ x → Turned x d was (Ok t) d' is → 0 < t.read
      → ((o : Outcome) → May d' (items (place + t.read) 0 (drop t.read bs)) (length was - t.written) o → May d (items place 0 bs) (length was) (behind (take t.written is) o))
      × (drop t.written is ≡ drop t.written was)
  turned_on (Ok (c, n)) t q h p =
      let size : t.read ≡ n = h.1 in
      let g = obeyed_on place c (items (place + n) 0 (drop n bs)) d d' was is (step d c) t.written refl h.0 in
      let e = items_read place bs c n some (omega arith) q in (
        λ o k.
            subst (λ (l : List Item). May d l (length was) (behind (take t.written is) o)) (sym e)
            (g.0 o (subst (λ (k : ℕ). May d' (items (place + k) 0 (drop k bs)) (length was - t.written) o) size k)),
        g.1,
      )
  turned_on (Err e) t q h p = let a = h.0 in cc

  -- or the fault
  turned_off : (x : Read) (layer : Layer) → decode bs ≡ x → Turned x d was (Err layer) d' is
      → May d (items place 0 bs) (length was) (faults d (layer_number layer) place (layer_name layer)) × (d' ≡ d) × (is ≡ was)
  turned_off (Ok (c, n)) layer q h =
      let e = items_front place bs c n some q in
      let g = obeyed_off place c e.0 d d' was is (step d c) (layer_number layer) (layer_name layer) refl h.0 in
      (subst (λ (l : List Item). May d l (length was) (faults d (layer_number layer) place (layer_name layer))) (sym e.1) g.0, g.1, g.2)
  turned_off (Err e) layer q h =
      let a = h.0 in
      let r : ◌≡◌ {A = ℕ × LayerName} (cause_number e, in_tape) (layer_number layer, layer_name layer) = cc in (
        subst (λ (l : List Item). May d l (length was) (faults d (layer_number layer) place (layer_name layer))) (sym (items_unread place bs e some q))
            (subst (λ (x : ℕ × LayerName). May d (record { place = place; says = Err (cause_number e) } ∷ []) (length was) (faults d x.0 place x.1)) r (may_unread d place (cause_number e) [] (length was))),
        h.1,
        h.2,
      )

-- what is put behind the front of a list
take_past : (p ys : List ℕ) (m k : ℕ) → k ≡ length p + m → take k (p ++ ys) ≡ p ++ take m ys
take_past [] ys m k e = let q : k ≡ m = omega arith in ap (λ j. take j ys) q
take_past (x ∷ p) ys m zero e = absurd (omega arith)
take_past (x ∷ p) ys m (suc k) e = ap (λ (l : List ℕ). x ∷ l) (take_past p ys m k (omega arith))

-- the rest of the listing from `len` on was lent, and holds ys now
module _ (l o ys : List ℕ) (len : ℕ) (room : len ≤ length l) (part : o ≡ drop len l) where
  lent : put_mid len (length l - len) l ys ≡ take len l ++ ys
  lent =
      let none = drop_all (length l - len) (drop len l) (omega (arith, length-drop len l)) in
      ap (λ (t : List ℕ). take len l ++ (ys ++ t)) none ∙ ap (λ (t : List ℕ). take len l ++ t) (append-nil ys)

  lent_front : (m : ℕ) → take (len + m) (put_mid len (length l - len) l ys) ≡ take len l ++ take m ys
  lent_front m =
      let n = length-take-le len l room in
      ap (take (len + m)) lent ∙ take_past (take len l) ys m (len + m) (omega arith)

  lent_back : (m : ℕ) → drop m ys ≡ drop m o → drop (len + m) (put_mid len (length l - len) l ys) ≡ drop (len + m) l
  lent_back m h =
      ap (drop (len + m)) lent
      ∙ sym (drop-drop m len (take len l ++ ys))
      ∙ ap (drop m) (drop_at (take len l) ys len (length-take-le len l room))
      ∙ h ∙ ap (drop m) part ∙ drop-drop m len l

  lent_same : ys ≡ o → put_mid len (length l - len) l ys ≡ l
  lent_same h = lent ∙ ap (λ (t : List ℕ). take len l ++ t) (h ∙ part) ∙ take-append-drop len l

-- What the loop keeps: what may come of the rest of the tape comes, behind the text so far, of the whole tape.
pub record Sofar (tape was : List ℕ) (at len : ℕ) (d : Desk) (l : List ℕ) : Type 0 where
  pub near : at ≤ length tape
  pub room : len ≤ length l
  pub same : length l ≡ length was
  pub back : drop len l ≡ drop len was
  pub whole : (o : Outcome) → May d (items at 0 (drop at tape)) (length was - len) o → May new_desk (items 0 0 tape) (length was) (behind (take len l) o)

pub begins : (tape was : List ℕ) (d : Desk) → d ≡ new_desk → Sofar tape was 0 0 d was
begins tape was d e =
    let z : length was - 0 ≡ length was = omega arith in
    record {
      near = omega arith;
      room = omega arith;
      same = refl;
      back = refl;
      whole = λ o m. subst (λ (n : ℕ). May new_desk (items 0 0 tape) n o) z (subst (λ (x : Desk). May x (items 0 0 tape) (length was - 0) o) e m);
    }

-- what the call in the loop is handed: the rest of the tape and the rest of the listing
pub record Handed (tape : List ℕ) (at len : ℕ) (l bs o : List ℕ) : Type 0 where
  pub on : at < length tape
  pub tail : bs ≡ drop at tape
  pub part : o ≡ drop len l

module _ (tape was : List ℕ) (at len : ℕ) (d : Desk) (l bs o : List ℕ) (inv : Sofar tape was at len d l) (hand : Handed tape at len l bs o) (d' : Desk) (ys : List ℕ) where
  some : 0 < length bs
  some = omega (arith, ap length hand.tail, length-drop at tape, hand.on)

  rest_room : length o ≡ length was - len
  rest_room = omega (arith, ap length hand.part, length-drop len l, inv.same)

  pub goes_on : (t : Turn) → Turned (decode bs) d o (Ok t) d' ys → 0 < t.read → t.read ≤ length bs → t.written ≤ length o → length (put_mid len (length l - len) l ys) ≡ length l
      → Sofar tape was (at + t.read) (len + t.written) d' (put_mid len (length l - len) l ys)
  goes_on t h p n m long =
      let g = turned_on at bs some d d' o ys (decode bs) t refl h p in
      let room = rest_room in
      let front = lent_front l o ys len inv.room hand.part t.written in
      let tail : drop (at + t.read) tape ≡ drop t.read bs = sym (ap (drop t.read) hand.tail ∙ drop-drop t.read at tape) in
      let left : length was - (len + t.written) ≡ length o - t.written = omega arith in
      record {
        near = omega (arith, ap length hand.tail, length-drop at tape, hand.on);
        room = omega (arith, ap length hand.part, length-drop len l, inv.room);
        same = long ∙ inv.same;
        back =
            lent_back l o ys len inv.room hand.part t.written g.1
            ∙ sym (drop-drop t.written len l) ∙ ap (drop t.written) inv.back ∙ drop-drop t.written len was;
        whole = λ x k.
            let a = subst (λ (z : List ℕ). May d' (items (at + t.read) 0 z) (length was - (len + t.written)) x) tail k in
            let b = g.0 x (subst (λ (z : ℕ). May d' (items (at + t.read) 0 (drop t.read bs)) z x) left a) in
            let e = subst (λ (z : List ℕ). May d (items at 0 z) (length o) (behind (take t.written ys) x)) hand.tail b in
            let f = inv.whole (behind (take t.written ys) x) (subst (λ (z : ℕ). May d (items at 0 (drop at tape)) z (behind (take t.written ys) x)) room e) in
            let q : behind (take len l) (behind (take t.written ys) x) ≡ behind (take (len + t.written) (put_mid len (length l - len) l ys)) x =
            ap (λ (z : List ℕ). record { desk = x.desk; text = z; fault = x.fault }) (sym (append_assoc (take len l) (take t.written ys) x.text))
            ∙ ap (λ (z : List ℕ). behind z x) (sym front) in
            subst (May new_desk (items 0 0 tape) (length was)) q f;
      }

  pub halts : (layer : Layer) → Turned (decode bs) d o (Err layer) d' ys
      → May new_desk (items 0 0 tape) (length was) (behind (take len l) (faults d (layer_number layer) at (layer_name layer))) × (d' ≡ d) × (put_mid len (length l - len) l ys ≡ l)
  halts layer h =
      let g = turned_off at bs some d d' o ys (decode bs) layer refl h in
      let x = faults d (layer_number layer) at (layer_name layer) in
      let a = subst (λ (z : List ℕ). May d (items at 0 z) (length o) x) hand.tail g.0 in (
        inv.whole x (subst (λ (z : ℕ). May d (items at 0 (drop at tape)) z x) rest_room a),
        g.1,
        lent_same l o ys len inv.room hand.part g.2,
      )

pub ends_so : (tape was : List ℕ) (at len : ℕ) (d : Desk) (l : List ℕ) → Sofar tape was at len d l → length tape ≤ at → May new_desk (items 0 0 tape) (length was) (behind (take len l) (ends d))
ends_so tape was at len d l inv h =
    inv.whole (ends d) (subst (λ (z : List ℕ). May d (items at 0 z) (length was - len) (ends d)) (sym (drop_all at tape h)) (may_end d (length was - len)))

-- the promise, once the tape has come to its end or to a fault
pub promised : (tape was : List ℕ) (len : ℕ) (l : List ℕ) (x : Outcome) (rig : Map) (fault : Option ToldFault) → len ≤ length l → drop len l ≡ drop len was → x.text ≡ [] → rig ≡ x.desk.map → fault ≡ x.fault
    → May new_desk (items 0 0 tape) (length was) (behind (take len l) x) → PlayDone tape was rig len fault l
promised tape was len l x rig fault room back none map_is fault_is m =
    let text = ap (λ (o : Outcome). o.text) m.comes ∙ ap (λ (t : List ℕ). take len l ++ t) none ∙ append-nil (take len l) in
    record {
      replies = m.replies;
      right = m.right;
      rig_is = map_is ∙ sym (ap (λ (o : Outcome). o.desk.map) m.comes);
      len_is = sym (ap length text ∙ length-take-le len l room);
      fault_is = fault_is ∙ sym (ap (λ (o : Outcome). o.fault) m.comes);
      listing_is = sym (take-append-drop len l) ∙ ap (λ (t : List ℕ). take len l ++ t) back ∙ ap (λ (t : List ℕ). t ++ drop len was) (sym text);
    }

-- what is written lies within the buffer
pub within_listing : (bytes was : List ℕ) (rig : Map) (len : ℕ) (fault : Option ToldFault) (is : List ℕ) → PlayDone bytes was rig len fault is → len ≤ length is
within_listing bytes was rig len fault is p =
    let e = ap length p.listing_is ∙ length-append (played new_desk (items 0 0 bytes) p.replies (length was)).text (drop len was) in
    omega (arith, p.len_is)
