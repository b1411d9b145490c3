use Rattle.std.proofs.Common.{◌∙◌, rules}
use Rattle.reader.proofs.Numbers.{read_past}
use Rattle.reader.proofs.scan.number_of.Goals as goal

pub returns-in_err-checked_mul-clause-value : goal.returns-in_err-checked_mul-clause-value
returns-in_err-checked_mul-clause-value c =
    c.from_residual.ensures ∙ read_past _ _ c.loop-b.b-index c.loop-b.n c.loop-b.invariant c.loop-b-test.true (search rules) (search rules)

pub returns-in_err-n-clause-value : goal.returns-in_err-n-clause-value
returns-in_err-n-clause-value c =
    c.from_residual-in_err-n.ensures ∙ read_past _ _ c.loop-b.b-index c.loop-b.n c.loop-b.invariant c.loop-b-test.true (search rules) (search rules)

pub returns-then-n-most-clause-value : goal.returns-then-n-most-clause-value
returns-then-n-most-clause-value c =
    read_past _ _ c.loop-b.b-index c.loop-b.n c.loop-b.invariant c.loop-b-test.true (search rules) (search rules)
