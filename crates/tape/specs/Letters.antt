-- The letters by which a tape names a kind of cost and a rule, and the word for a rule.
use Rattle.std.specs.Prelude.{ℕ, cond, List, Some, None, codes, Option, ◌==◌}
use Rattle.tape.specs.declared.command.KindName.{KindName}
use Rattle.tape.specs.declared.command.KindName.TheVariants.{Time, Strain, HandOvers}
use Rattle.tape.specs.declared.command.RuleName.{RuleName}
use Rattle.tape.specs.declared.command.RuleName.TheVariants.{Flat, Point, Pair}

-- t, s and h
abbrev pub kind_letter : KindName → ℕ
kind_letter Time = 0x74
kind_letter Strain = 0x73
kind_letter HandOvers = 0x68

-- f, p and m
abbrev pub rule_letter : RuleName → ℕ
rule_letter Flat = 0x66
rule_letter Point = 0x70
rule_letter Pair = 0x6D

-- what a letter names, if it names anything
abbrev pub kind_named : ℕ → Option KindName
kind_named c =
    cond (c == kind_letter Time) (Some Time)
    (cond (c == kind_letter Strain) (Some Strain)
    (cond (c == kind_letter HandOvers) (Some HandOvers) None))

abbrev pub rule_named : ℕ → Option RuleName
rule_named c =
    cond (c == rule_letter Flat) (Some Flat)
    (cond (c == rule_letter Point) (Some Point)
    (cond (c == rule_letter Pair) (Some Pair) None))

abbrev pub rule_word : RuleName → List ℕ
rule_word Flat = codes "flat"
rule_word Point = codes "point"
rule_word Pair = codes "pair"
