-- Reading a command is the inverse of writing it.
use Rattle.std.proofs.Common.{◌≡◌, ℕ, ◌++◌, length, Ok, ap, arith, rules}
use native.Mathlib.Nat.{div-add-mod}
use Rattle.std.proofs.lemmas.List.{take_at, length-append}
use Rattle.std.proofs.lemmas.Bool.{le-leb}
use Rattle.tape.specs.declared.command.KindName.TheVariants.{Time, Strain, HandOvers}
use Rattle.tape.specs.declared.command.RuleName.TheVariants.{Flat, Point, Pair}
use Rattle.tape.specs.Commands.{lay, strike, retime, name, set_flat, set_point, set_pair, use_rule, ask, bytes_of}
use Rattle.tape.specs.Reading.{ReadsBack}

pub reads_back : ReadsBack
reads_back (lay tail head winch time strain) rest h = search (rules, div-add-mod)
reads_back (strike run) rest h = search rules
reads_back (retime run time) rest h = search (rules, div-add-mod)
reads_back (name point text) rest h =
    let there = le-leb 10 (length (bytes_of (name point text) ++ rest)) (omega (arith, length-append text rest)) in
    let size : ◌≡◌ {A = ℕ} 10 (length (bytes_of (name point text))) = omega arith in
    rw (there, take_at text rest 8 h) (ap (λ (n : ℕ). Ok (name point text, n)) size)
reads_back (set_flat setting) rest h = search (rules, div-add-mod)
reads_back (set_point point setting) rest h = search (rules, div-add-mod)
reads_back (set_pair arriving leaving setting) rest h = search (rules, div-add-mod)
reads_back (use_rule Flat) rest h = search rules
reads_back (use_rule Point) rest h = search rules
reads_back (use_rule Pair) rest h = search rules
reads_back (ask Time home mark) rest h = search rules
reads_back (ask Strain home mark) rest h = search rules
reads_back (ask HandOvers home mark) rest h = search rules
