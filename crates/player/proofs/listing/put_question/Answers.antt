use Rattle.std.proofs.Common.{◌≡◌, ℕ, ◌<◌, List, [], ◌∷◌, ◌++◌, length, ap, ◌∙◌, arith}
use Rattle.std.proofs.lemmas.Fmt.{length-decimal-le}
use Rattle.tape.specs.declared.command.KindName.{KindName}
use Rattle.tape.specs.declared.command.KindName.TheVariants.{Time, Strain, HandOvers}
use Rattle.tape.specs.Letters.{kind_letter}
use Rattle.player.proofs.listing.put_question.Goals as goal

-- a letter takes one byte
letter_below : (kind : KindName) → kind_letter kind < 128
letter_below Time = omega arith
letter_below Strain = omega arith
letter_below HandOvers = omega arith

one_byte : (kind : KindName) (l : ℕ) (was is : List ℕ) → l ≡ kind_letter kind → was ≡ [] → (l < 128 → is ≡ was ++ l ∷ []) → length is ≡ 1
one_byte kind l was is e none pushed =
    let b = letter_below kind in
    let f = pushed (omega arith) in
    ap length f ∙ ap (λ (s : List ℕ). length (s ++ l ∷ [])) none

pub put_field-requires : goal.put_field-requires
put_field-requires c =
    let one = one_byte c.args.question.kind c.from-2.result c.args.line.now.bytes c.push.new.self.bytes (c.from-2.ensures ∙ c.from.ensures) c.requires c.push.ensures.ascii in
    let h = length-decimal-le 3 c.from-3.result (omega arith) (omega arith) (omega arith) in
    omega arith

pub put_field-requires-2 : goal.put_field-requires-2
put_field-requires-2 c =
    let one = one_byte c.args.question.kind c.from-2.result c.args.line.now.bytes c.push.new.self.bytes (c.from-2.ensures ∙ c.from.ensures) c.requires c.push.ensures.ascii in
    let h = length-decimal-le 3 c.from-3.result (omega arith) (omega arith) (omega arith) in
    let m = length-decimal-le 3 c.from-4.result (omega arith) (omega arith) (omega arith) in
    omega arith

pub returns-clause-within : goal.returns-clause-within
returns-clause-within c =
    let one = one_byte c.args.question.kind c.from-2.result c.args.line.now.bytes c.push.new.self.bytes (c.from-2.ensures ∙ c.from.ensures) c.requires c.push.ensures.ascii in
    let h = length-decimal-le 3 c.from-3.result (omega arith) (omega arith) (omega arith) in
    let m = length-decimal-le 3 c.from-4.result (omega arith) (omega arith) (omega arith) in
    omega arith
